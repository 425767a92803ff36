-- One more pending note was sent.
use Rattle.std.proofs.{Common.{◌≡◌, ◌<◌, List, [], ◌∷◌, ◌++◌, map, append_assoc}, lemmas.List.{map-append, Elements.{All-head, All-tail}}}
use Rattle.board_face.specs.{Texts.{IsSplitNote}, NicEvents.{sent}, NicCalls.{apps_of}, declared.views.nic.NicView.{NicView}}
use Rattle.board_face.proofs.ListLemmas.{places-without_first}
use Rattle.face_table.specs.{declared.pending.Pending.{Pending}, Flush.{IsReady, Sends}}

pub IsReady-sent : (v : NicView) (p : Pending) (ps : List Pending) → IsReady v (p ∷ ps) → IsReady (sent v p.app p.note) ps
IsReady-sent v p ps ready = record {
  pieces = let place : p.note.place ≡ p.piece = All-head (λ (q : Pending). q.note.place ≡ q.piece) p ps ready.places in
      rw place (places-without_first (λ q. q.place) v.pieces p.piece (map (λ q. q.piece) ps) ready.pieces);
  apps = All-tail (λ q. q.app < apps_of v.setting) p ps ready.apps;
  fields = All-tail (λ q. IsSplitNote q.note) p ps ready.fields;
  places = All-tail (λ q. q.note.place ≡ q.piece) p ps ready.places;
}

pub Sends-sent : (old v : NicView) (before : List Pending) (p : Pending) (ps : List Pending) → Sends old v before (p ∷ ps)
    → Sends old (sent v p.app p.note) before ps
Sends-sent old v before p ps sends = record {
  gone = sends.gone ++ p ∷ [];
  parts = rw append_assoc sends.parts;
  notes = simp (map-append, sends.notes, append_assoc);
  apps = simp (map-append, sends.apps, append_assoc);
  looks = record { later = λ look. sends.looks.later look };
}
