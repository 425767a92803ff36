-- Runs of steps, computed by the definitions: a buffer of 1,024 bytes, one application, and the payload `hello`.
use Rattle.std.{proofs.{Common.{◌≡◌, ℕ, true, false, List, [], ◌∷◌, refl, map}, lemmas.List.Elements.{All-nil, All-cons}}, specs.Prelude.{Some, nat_eq}}
use Rattle.area_layout.specs.Layout.{shape_of, judged}
use Rattle.zr_kinds.specs.declared.{place.{Place.{Place}, Note.{Note}}, ring.Rqe.{Rqe}}
use Rattle.board_face.specs.{Tokens.{filling}, NicEvents.{fresh}, AppEvents.{entry_of, begin_place}, Laws.{AllSides, pool_of, user_of, free_of}, Sides.{side_in}}
use Rattle.board_face.specs.{Opened.{new_nic, new_app}, Holders.{own, piece, sent, held, spare, loan, owed, holders_of, sent_to}}
use Rattle.board_face.specs.{Judged.{fate_of}, Relay.{Relayed, IsAsSent}, Shown.{text_of}, Places.{places_of}, FineSteps.{fine_apply, scrubs}}
use Rattle.board_face.specs.BoardSteps.{Step, apply, card, app, takes, sweeps, places, sends, honours, shuts, polls, lends, reads, gives, abandons, spares, fills, lends_own}
use Rattle.board_face.specs.declared.views.{parts.Setting.{Setting}, nic.Fate.TheVariants.{Honoured, Stray}, app.Origin.TheVariants.{Note as of_note}}

abbrev setting : Setting
setting = record { layout = shape_of 1 1 1024; places = 64 }

-- the bytes of `hello`, and where they lie
abbrev hello : List ℕ
hello = 104 ∷ 101 ∷ 108 ∷ 108 ∷ 111 ∷ []

abbrev place : Place
place = record { buffer = 0; offset = 0; len = 5 }

abbrev note : Note
note = record { frame = 1; flow = 0; base = 1001; seq = 1001; at = 0; total = 5; place = place; split = true; fin = false }

abbrev entry : Rqe
entry = entry_of setting.layout place

abbrev opened : AllSides
opened = record { nic = new_nic setting; apps = new_app setting 0 ∷ [] }

-- the sides behind each of these steps
abbrev behind : AllSides → List Step → List AllSides
behind s [] = []
behind s (step ∷ steps) = apply step s ∷ behind (apply step s) steps

-- ---- a payload goes from hand to hand

abbrev swept : AllSides
swept = apply (card (sweeps 0 (0 ∷ []))) opened

abbrev lent : AllSides
lent = apply (app 0 (reads place 0 hello)) (apply (app 0 (lends place)) (apply (app 0 (polls note)) (apply (card (sends 0 note))
    (apply (card (places (fresh setting 0) hello)) (apply (card (takes 0)) swept)))))

abbrev gave : AllSides
gave = apply (app 0 (gives place)) lent

abbrev honoured : AllSides
honoured = apply (card (honours 0 entry place false)) gave

abbrev shut : AllSides
shut = apply (card (shuts (filling 0 64 1024) true)) honoured

-- who has the buffer behind each step
holders : map (λ s. holders_of 0 s.nic s.apps) (behind opened (
    card (sweeps 0 (0 ∷ [])) ∷ card (takes 0) ∷ card (places (fresh setting 0) hello) ∷ card (sends 0 note) ∷ app 0 (polls note)
    ∷ app 0 (lends place) ∷ app 0 (gives place) ∷ card (honours 0 entry place false) ∷ card (shuts (filling 0 64 1024) true) ∷ []))
    ≡ [] ∷ (own ∷ []) ∷ (own ∷ piece place ∷ []) ∷ (own ∷ sent 0 place ∷ []) ∷ (own ∷ held 0 place ∷ [])
    ∷ (own ∷ loan 0 place ∷ []) ∷ (own ∷ owed 0 place ∷ []) ∷ (own ∷ []) ∷ [] ∷ []
holders = refl

-- its counts, and where it is free
counts : map (λ s. pool_of s 0 ∷ user_of s 0 0 ∷ []) (lent ∷ gave ∷ honoured ∷ []) ≡ (2 ∷ 1 ∷ []) ∷ (2 ∷ 1 ∷ []) ∷ (1 ∷ 0 ∷ []) ∷ []
counts = refl

free : (free_of (nat_eq 0) opened 0 ∷ map (λ s. free_of (λ _. false) s 0) (lent ∷ shut ∷ [])) ≡ 1 ∷ 0 ∷ 1 ∷ []
free = refl

-- the entry is judged a return, and a stray where it comes again
entry-judged : judged setting.layout entry ≡ Some 0
entry-judged = refl

fates : map (λ s. fate_of setting.layout (user_of s 0) entry) (gave ∷ honoured ∷ []) ≡ Honoured 0 ∷ Stray ∷ []
fates = refl

lent-text : text_of lent.nic (side_in lent.apps 0) (of_note 0 0) place ≡ hello
lent-text = refl

lent-relayed : Relayed lent.nic (side_in gave.apps 0) [] (entry ∷ [])
lent-relayed = assumption (All-cons (IsAsSent (sent_to 0 lent.nic)) (record { origin = of_note 0 0; bytes = hello }) [] refl (All-nil (IsAsSent (sent_to 0 lent.nic))))

-- ---- a short payload, copied into the reserve, cut off by an abandoned loan and a scrub

abbrev filled : AllSides
filled = apply (app 0 (fills (fresh setting 1) hello)) (apply (app 0 (spares 1)) opened)

abbrev abandoned : AllSides
abandoned = apply (app 0 (abandons (begin_place 1 5))) (apply (app 0 (lends_own (filling 1 64 1024))) filled)

filled-places : places_of 1 filled.nic filled.apps ≡ begin_place 1 5 ∷ []
filled-places = refl

copy-holders : map (λ s. holders_of 1 s.nic s.apps) (behind opened (
    app 0 (spares 1) ∷ app 0 (fills (fresh setting 1) hello) ∷ app 0 (lends_own (filling 1 64 1024)) ∷ app 0 (abandons (begin_place 1 5)) ∷ []))
    ≡ (spare 0 ∷ []) ∷ (spare 0 ∷ []) ∷ (loan 0 (begin_place 1 5) ∷ []) ∷ (owed 0 (begin_place 1 5) ∷ []) ∷ []
copy-holders = refl

scrubbed-holders : let s = fine_apply (scrubs 0 (0 ∷ 1 ∷ [])) abandoned in holders_of 1 s.nic s.apps ≡ []
scrubbed-holders = refl
