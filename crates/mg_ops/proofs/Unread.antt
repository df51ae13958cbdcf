-- A request whose reply is a success that was not read.
use Rattle.std.proofs.Common.{ℕ, Bool, List, ap, inl, inr}
use Rattle.mg_bson.specs.Tree.{Fields}
use Rattle.mg_server.specs.Calls.{HeardLast, Past, RequestFails, out_of_memory, was_broken}
use Rattle.mg_link.specs.Exec.{IsSuccess}
use Rattle.mg_link.specs.Log.{reply}
use Rattle.mg_link.specs.declared.error.Error.{Error}
use Rattle.mg_ops.specs.Failing.{FailsBy}

pub unread_fails : (past : Past) (command : Fields) (retries : Bool) (Broken : List ℕ → Error → Type 0) (bytes : List ℕ) (e : Error)
    → FailsBy (Broken bytes) e → HeardLast past command retries (reply bytes) → IsSuccess bytes → RequestFails past command retries Broken e
unread_fails past command retries Broken bytes e (inl room) heard success = out_of_memory (ap (λ (x : Error). x.kind) room)
unread_fails past command retries Broken bytes e (inr by) heard success = was_broken bytes heard success by
