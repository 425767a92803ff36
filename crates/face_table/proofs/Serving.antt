-- More of a loan was read, and one more note was served.
use Rattle.std.proofs.Common.{◌≡◌, ℕ, ◌+◌, List, [], ◌∷◌, ◌++◌, length, refl, ap, sym, ◌∙◌, arith, append_assoc, length-append, add-zero, sum_by, true, false}
use Rattle.std.proofs.lemmas.List.Sums.{sum_by-append}
use Rattle.board_face.{proofs.ListLemmas.{same_place-refl}, specs.{AppCalls.{TookNote, AppOnlySaw}, AppEvents.{app_saw}, declared.views.app.AppLook.{AppLook}}}
use Rattle.board_face.specs.{declared.views.app.{AppLook.TheVariants.{CardEnded, RefillInUse}, Origin.{Origin}}, Texts.{further}, AppEvents.{has_read, loan_origin}}
use Rattle.board_face.specs.{declared.views.app.{Reading.{Reading}, AppView.{AppView}}, Texts.{IsSplitNote, IsLinearNote}, Looks.{AppLooksStay, same_app_look}}
use Rattle.board_face.{specs.AppEvents.{took_note, took_linear, told_end, lent, abandoned, gave}, proofs.LookLemmas.{times-more}}
use Rattle.zr_kinds.specs.declared.place.{Place.{Place}, Note.{Note}}
use Rattle.face_table.specs.Reader.{ReadingsGoOn, ReadsOf, HasNothing, Serves, bytes_read}

pub GoesOn-push : (origin : Origin) (from : ℕ) (rs : List Reading) (middle : ℕ) (bytes : List ℕ) → ReadingsGoOn origin from rs middle
    → ReadingsGoOn origin from (rs ++ record { origin = further origin middle; bytes = bytes } ∷ []) (middle + length bytes)
GoesOn-push origin from [] middle bytes on = (ap (further origin) (sym on), rw on refl)
GoesOn-push origin from (r ∷ rs) middle bytes on = (on.0, GoesOn-push origin (from + length r.bytes) rs middle bytes on.1)

pub ReadsOf-more : (old v : AppView) (loan : Place) (count : ℕ) (bytes : List ℕ) → ReadsOf old v loan count
    → ReadsOf old (has_read v loan count bytes) loan (count + length bytes)
ReadsOf-more old v loan count [] reads = record {
  readings = reads.readings;
  event = reads.event;
  in_order = rw (add-zero count) reads.in_order;
}
ReadsOf-more old v loan count (b ∷ bytes) reads = record {
  readings = reads.readings ++ record { origin = further (loan_origin old loan) count; bytes = b ∷ bytes } ∷ [];
  event = rw (reads.event, append_assoc) refl;
  in_order = GoesOn-push (loan_origin old loan) 0 reads.readings count (b ∷ bytes) reads.in_order;
}

pub Serves-told_end : (old v : AppView) → Serves old v → Serves old (told_end v)
Serves-told_end old v s = record {
  notes = s.notes;
  taken = s.taken;
  returned = s.returned;
  read = s.read;
  looks = record { later = λ look. omega (arith, s.looks.later look, times-more same_app_look look CardEnded v.looks) };
}

pub Serves-took_linear : (old v : AppView) (note : Note) (bytes : List ℕ) → IsLinearNote note → Serves old v → Serves old (took_linear v note bytes)
Serves-took_linear old v note bytes fields s = record {
  notes = s.notes ++ record { note = note; bytes = bytes } ∷ [];
  taken = rw (s.taken, append_assoc) refl;
  returned = let linear : note.split ≡ false = fields.split in simp (sum_by-append, linear) (omega (arith, s.returned));
  read = let linear : note.split ≡ false = fields.split in simp (sum_by-append, linear) (omega (arith, s.read));
  looks = record { later = λ look. s.looks.later look };
}

-- readings that go on are as long as they go
GoesOn-total : (origin : Origin) (from : ℕ) (rs : List Reading) (end : ℕ) → ReadingsGoOn origin from rs end
    → from + sum_by (λ (r : Reading). length r.bytes) rs ≡ end
GoesOn-total origin from [] end on = simp add-zero on
GoesOn-total origin from (r ∷ rs) end on = omega (
  arith,
  sum_by-append (λ (x : Reading). length x.bytes) (r ∷ []) rs,
  GoesOn-total origin (from + length r.bytes) rs end on.1,
)

read_all : (origin : Origin) (before rs : List Reading) (len : ℕ) → ReadingsGoOn origin 0 rs len
    → sum_by (λ (r : Reading). length r.bytes) (before ++ rs) ≡ sum_by (λ (r : Reading). length r.bytes) before + len
read_all origin before rs len on = omega (arith, sum_by-append (λ (x : Reading). length x.bytes) before rs, GoesOn-total origin 0 rs len on)

-- What lending, reading and giving up the piece of a note leaves, whatever the last look was.
pub record CameBack (v w : AppView) (note : Note) : Type 0 where
  pub here : w.left ≡ v.left
  pub settled : w.settled ≡ v.settled
  pub scrubbed : w.scrubbed ≡ v.scrubbed
  pub nothing : HasNothing w
  pub taken : w.taken ≡ v.taken ++ record { note = note; bytes = [] } ∷ []
  pub returned : length w.returned ≡ length v.returned + 1
  pub read : bytes_read w ≡ bytes_read v + note.place.len
  pub looks : AppLooksStay v w

pub CameBack-abandoned : (v u : AppView) (note : Note) → HasNothing v → ReadsOf (lent (took_note v note) note.place) u note.place note.place.len
    → CameBack v (abandoned u note.place) note
CameBack-abandoned v u note none reads =
    let e = reads.event in
    rw e (record {
      here = refl;
      settled = refl;
      scrubbed = refl;
      nothing = record {
        helds = rw (none.helds, same_place-refl note.place) refl;
        loans = rw (none.loans, same_place-refl note.place) refl;
        spares = none.spares;
      };
      taken = refl;
      returned = simp length-append refl;
      read = read_all (loan_origin (lent (took_note v note) note.place) note.place) v.reads reads.readings note.place.len reads.in_order;
      looks = record { later = λ look. omega arith };
    })

pub Serves-CameBack : (old v w : AppView) (note : Note) → IsSplitNote note → Serves old v → CameBack v w note → Serves old w
Serves-CameBack old v w note fields s back = record {
  notes = s.notes ++ record { note = note; bytes = [] } ∷ [];
  taken = rw (back.taken, s.taken, append_assoc) refl;
  returned = let split : note.split ≡ true = fields.split in simp (sum_by-append, split) (omega (arith, s.returned, back.returned));
  read = let split : note.split ≡ true = fields.split in simp (sum_by-append, split) (omega (arith, s.read, back.read));
  looks = record { later = λ look. omega (arith, s.looks.later look, back.looks.later look) };
}

CameBack-looked : (v u : AppView) (note : Note) (look : AppLook) → CameBack v (abandoned u note.place) note
    → CameBack v (abandoned (app_saw u look) note.place) note
CameBack-looked v u note look back = record {
  here = back.here;
  settled = back.settled;
  scrubbed = back.scrubbed;
  nothing = record { helds = back.nothing.helds; loans = back.nothing.loans; spares = back.nothing.spares };
  taken = back.taken;
  returned = back.returned;
  read = back.read;
  looks = record { later = λ other. omega (arith, back.looks.later other, times-more same_app_look other look u.looks) };
}

CameBack-gave : (v u : AppView) (note : Note) → CameBack v (abandoned u note.place) note → CameBack v (gave u note.place) note
CameBack-gave v u note back = record {
  here = back.here;
  settled = back.settled;
  scrubbed = back.scrubbed;
  nothing = record { helds = back.nothing.helds; loans = back.nothing.loans; spares = back.nothing.spares };
  taken = back.taken;
  returned = back.returned;
  read = back.read;
  looks = record { later = λ other. back.looks.later other };
}

-- a whole turn of one note, up to the loan's end
module _ (v took lend read : AppView) (note : Note) (held loan : Place) (none : HasNothing v) (taken : TookNote v took note held)
    (lends : lend ≡ lent took held) (same : loan ≡ held) (reads : ReadsOf lend read loan loan.len) where
  reads_note : ReadsOf (lent (took_note v note) note.place) read note.place note.place.len
  reads_note =
      let place : loan ≡ note.place = same ∙ taken.place in
      let view : lend ≡ lent (took_note v note) note.place = rw (lends, taken.event, taken.place) refl in
      rw (← view, ← place) reads

  pub CameBack-turn_abandoned : (saw gone : AppView) (back : Place) → back ≡ loan → AppOnlySaw RefillInUse read saw → gone ≡ abandoned saw back
      → CameBack v gone note
  CameBack-turn_abandoned saw gone back same_back only leaves =
      rw (leaves, only.event, same_back, same, taken.place) (CameBack-looked v read note RefillInUse (CameBack-abandoned v read note none reads_note))

  pub CameBack-turn_gave : (gone : AppView) → gone ≡ gave read loan → CameBack v gone note
  CameBack-turn_gave gone gives =
      rw (gives, same, taken.place) (CameBack-gave v read note (CameBack-abandoned v read note none reads_note))
