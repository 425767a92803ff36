-- The entry that is next in an application's ring is dealt with.
use Rattle.std.proofs.Common.{◌≡◌, ℕ, suc, ◌+◌, ◌-◌, ◌≤◌, Bool, true, false, List, [], ◌∷◌, ◌++◌, length, map, drop, refl, ap, sym, ◌∙◌, arith, length-append}
use Rattle.std.{specs.{Prelude.{◌≢◌, filter, count_by, ◌==◌, nat_lt, if◌then◌else◌}, List.{zip}}, proofs.lemmas.List.{drop-map}}
use Rattle.std.proofs.{lemmas.{List.Elements.{All-tail, All-push, All-weaker}, Bool.{ltb-false}}, Math.Seq.{drop-append_seam}}
use Rattle.zr_kinds.{specs.declared.ring.Rqe.{Rqe}, proofs.Lists.{drop-after}}
use Rattle.board_face.specs.{Sides.{nic_at}, Holders.{lowered_in_hand, ended_in, owed_in}, Relay.{Relayed, dealt_entries, IsNoLoanStray}}
use Rattle.board_face.specs.declared.views.{nic.{Dealt.{Dealt}, NicView.{NicView}, NicSide.{NicSide}}, app.{TakenNote.{TakenNote}, WrittenEntry.{WrittenEntry}}}
use Rattle.board_face.{specs.declared.views.app.AppSide.{AppSide}, proofs.{NicLemmas.{ended_in-push}, Parts.{owed-count}}}
pub use Rattle.board_face.proofs.DealtLemmas.{length-mapped, dealt-more, dealt-same, zip-push}
use Rattle.plain_board.specs.{Returns.{entries_on_way, returns, abandoned_in, reach_of, IsNamed, IsOfLoan, AreReturns}, Sound.{IsPhased, ArePhased}}

-- ---- the front

-- the first entry on its way is this one
pub record HasFront (nic : NicSide) (app : AppSide) (e : Rqe) : Type 0 where
  pub first : WrittenEntry
  pub others : List WrittenEntry
  pub way : entries_on_way nic app ≡ first ∷ others
  pub entry : first.entry ≡ e

front-case : (nic : NicSide) (app : AppSide) (e : Rqe) (es : List Rqe) (q : List WrittenEntry) → entries_on_way nic app ≡ q
    → map (λ w. w.entry) q ≡ e ∷ es → HasFront nic app e
front-case nic app e es [] way same = absurd (let none : ⊥ = cc in none)
front-case nic app e es (w ∷ ws) way same = record { first = w; others = ws; way = way; entry = let is : w.entry ≡ e = cc in is }

-- what lies in the slots are the entries on their way
pub entries-relayed : (nic : NicSide) (app : AppSide) (ns : List TakenNote) (es : List Rqe) → Relayed nic app ns es
    → map (λ w. w.entry) (entries_on_way nic app) ≡ es
entries-relayed nic app ns es relayed =
    let dealt = dealt_entries app.view.app nic in
    let rest : drop (length dealt) (map (λ w. w.entry) app.view.written) ≡ es = rw (← relayed.entries) (drop-append_seam dealt es) in
    sym (drop-map (λ (w : WrittenEntry). w.entry) (length dealt) app.view.written) ∙ rest

pub HasFront-relayed : (nic : NicSide) (app : AppSide) (ns : List TakenNote) (e : Rqe) (es : List Rqe) → Relayed nic app ns (e ∷ es) → HasFront nic app e
HasFront-relayed nic app ns e es relayed = front-case nic app e es (entries_on_way nic app) refl (entries-relayed nic app ns (e ∷ es) relayed)

-- ---- what the card has dealt with

-- ---- the application whose entry it is

module _ (nic : NicSide) (v : NicView) (app : AppSide) (d : Dealt) (deals : v.dealt ≡ nic.view.dealt ++ d ∷ []) (front : HasFront nic app d.entry)
    (mine : d.app ≡ app.view.app) where
  pub way-after : entries_on_way (nic_at nic v) app ≡ front.others
  way-after =
      let before = filter (λ (x : Dealt). x.app == app.view.app) nic.view.dealt in
      let after = filter (λ (x : Dealt). x.app == app.view.app) v.dealt in
      let more : length (dealt_entries app.view.app (nic_at nic v)) ≡ suc (length (dealt_entries app.view.app nic)) =
      omega (
        arith,
        length-mapped (λ (x : Dealt). x.entry) after,
        length-mapped (λ (x : Dealt). x.entry) before,
        ap length (dealt-more nic v app.view.app d deals mine),
        length-append before (d ∷ []),
      ) in
      rw more (drop-after (length (dealt_entries app.view.app nic)) app.view.written front.first front.others front.way)

  pub AreReturns-dealt : AreReturns nic app → ((b : ℕ) → lowered_in_hand app.view.app b nic.inside.entry ≡ 0) → ((b : ℕ)
      → count_by (returns app.view.setting.layout b) front.others
      ≤ length (owed_in b (nic_at nic v) app))
      → ((b : ℕ) → length (owed_in b (nic_at nic v) app) ≤ count_by (returns app.view.setting.layout b) front.others + abandoned_in b app)
      → IsNoLoanStray (front.first, d) → AreReturns (nic_at nic v) app
  AreReturns-dealt h idle still_owed no_more good =
      let before = filter (λ (x : Dealt). x.app == app.view.app) nic.view.dealt in
      record {
        written = h.written;
        owed = λ b. rw way-after (omega (arith, still_owed b));
        no_more = λ b. rw way-after (omega (arith, no_more b, idle b));
        clear = λ b. rw way-after ((rw front.way at (h.clear b)).1);
        named = rw way-after (All-tail (IsNamed app.view.setting.layout) front.first front.others (rw front.way at h.named));
        settled = λ e. rw way-after (All-tail IsOfLoan front.first front.others (rw front.way at (h.settled e)));
        quiet = λ e. absurd (let empty : front.first ∷ front.others ≡ [] = sym front.way ∙ h.quiet e in let none : ⊥ = cc in none);
        scrubbed = λ e. absurd (let empty : front.first ∷ front.others ≡ [] = sym front.way ∙ h.scrubbed e in let none : ⊥ = cc in none);
        strays = rw (
          dealt-more nic v app.view.app d deals mine,
          zip-push app.view.written before d front.first front.others (rw (length-mapped (λ (x : Dealt). x.entry) before) at front.way),
        )
            (All-push IsNoLoanStray (zip app.view.written before) (front.first, d) h.strays good);
      }

-- ---- the other applications

pub AreReturns-other : (nic : NicSide) (v : NicView) (app : AppSide) (d : Dealt) → v.dealt ≡ nic.view.dealt ++ d ∷ [] → d.app ≢ app.view.app
    → ((b : ℕ) → ended_in b (nic_at nic v) app ≡ ended_in b nic app) → AreReturns nic app → AreReturns (nic_at nic v) app
AreReturns-other nic v app d deals other ends h =
    let same = dealt-same nic v app.view.app d deals other in
    record {
      written = h.written;
      owed = λ b. rw (same, ends b) (h.owed b);
      no_more = λ b. rw (same, ends b) (h.no_more b);
      clear = λ b. rw same (h.clear b);
      named = rw same h.named;
      settled = λ e. rw same (h.settled e);
      quiet = λ e. rw same (h.quiet e);
      scrubbed = λ e. rw same (h.scrubbed e);
      strays = rw same h.strays;
    }

-- ---- how far the applications have come

-- an entry more is dealt with: who has scrubbed still owes nothing
pub ArePhased-dealt : (nic : NicSide) (v : NicView) (apps : List AppSide) (d : Dealt) → v.sent ≡ nic.view.sent → v.dealt ≡ nic.view.dealt ++ d ∷ []
    → v.ended ≡ nic.view.ended → v.owns ≡ nic.view.owns → v.pieces ≡ nic.view.pieces → ArePhased nic apps → ArePhased (nic_at nic v) apps
ArePhased-dealt nic v apps d sents deals same owns pieces h = record {
  card = λ e. let none = h.card (sym same ∙ e) in record { owns = owns ∙ none.owns; pieces = pieces ∙ none.pieces };
  sides = All-weaker (IsPhased nic) (IsPhased (nic_at nic v))
      (λ app p. record {
        ended = λ e. (same ∙ (p.ended e).0, rw sents (p.ended e).1);
        scrubbed = λ e. (
          (p.scrubbed e).0,
          λ b. omega (
            arith,
            (p.scrubbed e).1 b,
            owed-count b nic app,
            owed-count b (nic_at nic v) app,
            ended_in-push b nic v d app deals,
          ),
        );
        left = p.left;
      })
      apps h.sides;
}

-- ---- how far back the last raw entry lies

pub reach-popped : (w : WrittenEntry) (ws : List WrittenEntry) → reach_of (w ∷ ws) - 1 ≡ reach_of ws
reach-popped w ws = by (nat_lt 0 (reach_of ws)) refl w.of_loan
  where
    first : (l : Bool) → reach_of ws ≡ 0 → (if l then 0 else 1) - 1 ≡ reach_of ws
    first true none = omega arith
    first false none = omega arith

    by : (c : Bool) → nat_lt 0 (reach_of ws) ≡ c → (l : Bool) → (if c then suc (reach_of ws) else if l then 0 else 1) - 1 ≡ reach_of ws
    by true e l = omega arith
    by false e l = first l (let past = ltb-false 0 (reach_of ws) e in omega arith)
