-- A step that is kept performs its command.
use Rattle.std.proofs.Common.{◌≡◌, ℕ, List, [], ◌∷◌, ◌++◌, Result, Ok, Err, sym, subst}
use Rattle.std.specs.Prelude.{IfOk}
use Rattle.mg_bson.specs.Tree.{Fields}
use Rattle.mg_server.specs.Kept.{IsReply, Kept}
use Rattle.mg_store.specs.InMemory.{Performed}
use Rattle.mg_store.specs.Stored.{Stored}

pub performed : {E : Type 0} (document : List Kept → Fields) (old new : Stored) (command written : List ℕ) (x : Result (List ℕ) E) → IsReply (document old.history) written
    → IfOk x (λ r. new.history ≡ old.history ++ record { command = command; reply = r } ∷ []) → IfOk x (λ r. r ≡ written) → IfOk x (Performed document old new command)
performed document old new command written (Ok r) replies history same = record { history = history; replies = subst (IsReply (document old.history)) (sym same) replies }
performed document old new command written (Err e) replies history same = tt
