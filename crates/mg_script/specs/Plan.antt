-- What a script asks for, without where it lies in memory.
use Rattle.std.specs.Prelude.{ℕ, ℤ, List, map, Option, Vec, string_bytes}
use Rattle.std.specs.declared.alloc.Global.{Global}
use Rattle.mg_bson.specs.Tree.{Tree, Fields}
use Rattle.mg_bson.specs.View.{tree}
use Rattle.mg_link.specs.Namespace.{Space, Target, space, target}
use Rattle.mg_store.specs.declared.fate.Fate.{Fate}
use Rattle.mg_store.specs.declared.fate.FateKind.{FateKind}
use Rattle.mg_store.specs.declared.fate.FateKind.TheVariants as kinds
use Rattle.mg_script.specs.declared.script.Job.{Job}
use Rattle.mg_script.specs.declared.script.Job.TheVariants as jobs
use Rattle.mg_script.specs.declared.script.Start.{Start}
use Rattle.mg_script.specs.declared.script.Start.TheVariants as starts
use Rattle.mg_script.specs.declared.script.Script.{Script}

-- where a change stream begins: at the end, behind a token's event, or before the first event not older than a time
pub data Begin : Type 0 where
  nowhere : Begin
  resume_after : (token : Tree) → Begin
  start_after : (token : Tree) → Begin
  at_time : (seconds increment : ℕ) → Begin

-- a job
pub data Task : Type 0 where
  insert : (ns : Space) (docs : List Fields) → Task
  follow : (on : Target) (calls : ℕ) (begin : Begin) (filter : Option Fields) (batch : Option ℕ) → Task
  put : (db bucket name : List ℕ) (id : Tree) (chunk : ℕ) (pieces : List (List ℕ)) → Task
  get : (db bucket : List ℕ) (id : Tree) (read : ℕ) → Task

-- what is performed of a command, and what comes back
pub data Lot : Type 0 where
  keep : Lot
  lose : Lot
  dropped : Lot
  refuse : (code : ℤ) (labels : List (List ℕ)) → Lot

-- what becomes of a command: how many polls pend, and what comes then
pub record Fated : Type 0 where
  pub pend : ℕ
  pub lot : Lot

-- a script
pub record Plan : Type 0 where
  pub tasks : List Task
  pub turns : List ℕ
  pub fates : List Fated
  pub wire : ℤ
  pub ids : List ℕ
  pub moment : ℤ

-- ---- what the code's values say

abbrev pub begin : Start → Begin
begin starts.Nowhere = nowhere
begin (starts.ResumeAfter t) = resume_after t
begin (starts.StartAfter t) = start_after t
begin (starts.At t) = at_time t.time t.increment

abbrev pub piece : Vec ℕ Global → List ℕ
piece p = p.items

abbrev pub pieces : List (Vec ℕ Global) → List (List ℕ)
pieces ps = map piece ps

abbrev pub task : Job → Task
task (jobs.Insert ns docs) = insert (space ns) docs.items
task (jobs.Follow on calls start filter batch) = follow (target on) calls (begin start) filter batch
task (jobs.Put db bucket name id chunk cut) = put db (string_bytes bucket) (string_bytes name) (tree id) chunk (pieces cut.items)
task (jobs.Get db bucket id read) = get db (string_bytes bucket) (tree id) read

abbrev pub tasks : List Job → List Task
tasks js = map task js

abbrev pub lot : FateKind → Lot
lot kinds.Keep = keep
lot kinds.Lose = lose
lot kinds.Drop = dropped
lot (kinds.Refuse code labels) = refuse code (map string_bytes labels.items)

abbrev pub fated : Fate → Fated
fated f = record { pend = f.pend; lot = lot f.kind }

abbrev pub fates : List Fate → List Fated
fates fs = map fated fs

abbrev pub plan : Script → Plan
plan s = record { tasks = tasks s.jobs.items; turns = s.order.items; fates = fates s.fates.items; wire = s.wire; ids = s.ids; moment = s.moment.millis }
