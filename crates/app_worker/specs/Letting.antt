-- All that an application has out is given up.
use Rattle.std.specs.Prelude.{◌≡◌, ℕ, ◌+◌, ◌<◌, ◌≤◌, true, List, [], ◌++◌, map, length, take, Option, None}
use Rattle.circular_buffer.specs.Buffer.{buffer}
use Rattle.board_face.specs.declared.views.app.{LentPiece.{LentPiece}, AppView.{AppView}}
use Rattle.flow_queues.specs.{Entries.{GivesAll}, Core.{total, LieApart, Each, many}, Flows.{IsIndex, facts_of}, Shelves.{FlowEnds, AreFronts}}
use Rattle.flow_queues.specs.Totals.{lent_bytes, lent_len, loan_entries}
use Rattle.app_worker.specs.{State.{State, Common, app_steps}, Moves.{Moves}, Whole.{KeepsShelves}}

-- tokens went, and nothing else changed
pub record OnlyTokens (old new : AppView) : Type 0 where
  pub view : new ≡ record old { helds = new.helds; loans = new.loans; returned = new.returned }
  pub apart : LieApart new

-- loans were abandoned, whose sums are these
pub record Abandons (old new : AppView) (gone : (LentPiece → ℕ) → ℕ) : Type 0 where
  pub only : OnlyTokens old new
  pub helds : new.helds ≡ old.helds
  pub loans : (f : LentPiece → ℕ) → total f new.loans + gone f ≡ total f old.loans
  pub returned : length new.returned ≡ length old.returned + gone (λ _. 1)
  pub back : (f : LentPiece → ℕ) → total f new.returned ≡ total f old.returned + gone f
  pub behind : (more : List LentPiece) × (new.returned ≡ old.returned ++ more)

-- all is given up, and nothing else changed
pub record LetGo (was now : State) (old new : AppView) : Type 0 where
  pub helds : new.helds ≡ []
  pub loans : new.loans ≡ []
  pub back : (f : LentPiece → ℕ) → total f new.returned ≡ total f old.returned + total f old.loans
  pub behind : (more : List LentPiece) × (new.returned ≡ old.returned ++ more)
  pub given : GivesAll new (take (loan_entries new) new.returned)
  pub entries : loan_entries new ≡ length old.returned
  pub same : now ≡ record was { flows = now.flows; unread = []; due = None; leaked = buffer [] was.leaked.capacity; bare = true }
  pub facts : map facts_of now.flows ≡ map facts_of was.flows
  pub ends : Each (FlowEnds new.taken) now.flows
  pub distinct : (number : ℕ) → many number now.flows ≤ 1
  pub index : IsIndex now.index now.flows
  pub within_lent : total (λ f. f.bytes) now.flows ≤ lent_bytes new
  pub whole_given : total lent_len (take (loan_entries new) new.returned) ≤ total (λ f. f.bytes) now.flows
  pub common : Common now new
  pub moves : Moves was now old new
  pub steps : app_steps was old < app_steps now new
  pub shelved : KeepsShelves was now old new
  pub fronts : (first kept : ℕ → Option (List ℕ)) → AreFronts first kept was.flows old → AreFronts first kept now.flows new
  pub none_left : now.stray.left ≡ 0
  pub taken : new.taken ≡ old.taken
  pub left : new.left ≡ old.left
