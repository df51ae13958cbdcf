-- An insert names no cursor, whatever its names are.
use Rattle.std.proofs.Common.{◌≡◌, ℕ, ℤ, Bool, true, List, Option, Some, None, ap, subst, option_map, inl, inr}
use Rattle.std.specs.Prelude.{codes, option_and_then, unwrap_or}
use Rattle.mg_bson.specs.Tree.{Fields}
use Rattle.mg_bson.specs.Raw.{fields}
use Rattle.mg_bson.specs.Find.{as_array, get}
use Rattle.mg_link.specs.Namespace.{Space}
use Rattle.mg_server.specs.Commands.{asked, asked_by, asks_insert, asks_other, documents_in, flag_or, insert_of, space_at}
use Rattle.mg_server.specs.Standing.{Names}
use Rattle.mg_link.specs.Acts.{Tickets}
use Rattle.mg_link.specs.Exec.{Sending, Runs}
use Rattle.mg_link.specs.Link.{Awaited, LogTold}
use Rattle.mg_link.specs.declared.action.Step.TheVariants as step
use Rattle.mg_ops.specs.Bodies.{insert_command}

names_by : (a : Option Space) (b : Option (List Fields)) (c : Option Bool) (x : ℤ) → Names (unwrap_or (option_and_then (λ space. option_and_then (λ ds. option_map (asks_insert space ds) c) b) a) asks_other) x → ⊥
names_by None b c x names = names
names_by (Some space) None c x names = names
names_by (Some space) (Some ds) None x names = names
names_by (Some space) (Some ds) (Some flag) x names = names

names_of : (fs : Fields) (x : ℤ) → Names (unwrap_or (insert_of fs) asks_other) x → ⊥
unfolding insert_of
names_of fs x names = names_by (space_at (codes "insert") fs) (option_and_then documents_in (option_and_then as_array (get (codes "documents") fs))) (flag_or true (get (codes "ordered") fs)) x names

pub insert_names_none : (command : List ℕ) (space : Space) (ds : List Fields) → fields command ≡ insert_command space ds → (x : ℤ) → Names (asked command) x → ⊥
unfolding asked
insert_names_none command space ds e x names = names_of (insert_command space ds) x (subst (λ (fs : Fields). Names (unwrap_or (asked_by fs) asks_other) x) e names)

-- A request that pends carries the same command.
pub same_command : (old new : Awaited) (log log' : LogTold) (wire : ℤ) (s s' : Sending) → Runs old new log log' wire s (step.Pending s') → s'.command ≡ s.command
same_command old new log log' wire s s' (inl once) = ap (λ (x : Sending). x.command) once.gives.2
same_command old new log log' wire s s' (inr twice) = ap (λ (x : Sending). x.command) twice.gives.2

pub tickets_from : (mid new : Awaited) (held ticket ticket' : Option ℕ) → ticket ≡ held → Tickets mid new ticket ticket' → Tickets mid new held ticket'
tickets_from mid new held ticket ticket' same t = subst (λ (h : Option ℕ). Tickets mid new h ticket') same t
