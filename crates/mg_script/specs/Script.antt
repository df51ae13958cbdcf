-- The script that bytes are, or the place of the first fault.
use Rattle.std.specs.Prelude.{ℕ, pos, ℤ, List, [], ◌∷◌, length, Option, Some, None, option_and_then, Result, Ok, Err, nat_le, nat_lt, codes, if◌then◌else◌}
use Rattle.std.specs.Str.{is_utf8, bytes_eq}
use Rattle.serde_json.specs.Data.{Data, Items}
use Rattle.serde_json.specs.Find.{get, as_str}
use Rattle.serde_json.specs.Events.{items_len}
use Rattle.serde_json.specs.Read.{read}
use Rattle.mg_bson.specs.Tree as bson
use Rattle.mg_bson.specs.Find.{as_timestamp}
use Rattle.mg_script.specs.declared.fault.Place.{Place}
use Rattle.mg_script.specs.declared.fault.Place.TheVariants as place
use Rattle.mg_link.specs.Namespace.{Space, Target, database, collection, cluster, space_of, has_dot, as_database}
use Rattle.mg_script.specs.Plan as plans
use Rattle.mg_script.specs.Plan.{Task, Begin, Lot, Fated, Plan}
use Rattle.mg_script.specs.Reads.{◌>>=◌, found, guard, each}
use Rattle.mg_script.specs.Parts.{has_only, optional, lower_bytes, int64_number, int32_number, natural_number, small_number, member_at, array_at, array_or, text_at, text_or, number_at, number_or, single_at, bytes_at}
use Rattle.mg_script.specs.Values.{value_at, document_at}

-- ---- names

-- the namespace with the full name
abbrev pub space_at : Place → List ℕ → Result Space Place
space_at p s = found p (space_of s)

-- the database of the name, and the cluster where the name is empty
abbrev pub whole_target : Place → List ℕ → Result Target Place
whole_target p s = if has_dot s then Err p else (if nat_lt 0 (length s) then Ok (database s) else Ok cluster)

-- the collection where there is one, and what follows else
abbrev pub or_whole : Option Space → Result Target Place → Result Target Place
or_whole (Some n) r = Ok (collection n)
or_whole None r = r

-- what is watched: a namespace, or the name of a database, or nothing for the cluster
abbrev pub target_at : Place → List ℕ → Result Target Place
target_at p s = or_whole (space_of s) (whole_target p s)

-- the name of a database
abbrev pub database_at : Place → Data → Result (List ℕ) Place
database_at p d = text_at p (codes "db") d >>= λ s. found p (as_database s)

-- ---- insert

-- an object of `docs` with at least one item, `job` and `ns`: its name and its items
unfoldable pub inserted : Place → Data → Result (List ℕ × Items) Place
inserted p d = do
  named ← guard p (has_only (codes "docs" ∷ codes "job" ∷ codes "ns" ∷ []) d)
  ns ← text_at p (codes "ns") d
  docs ← array_at p (codes "docs") d
  some ← guard p (nat_lt 0 (items_len docs))
  Ok (ns, docs)

-- an insert
unfoldable pub insert_of : Place → Data → Result Task Place
insert_of p d = do
  parts ← inserted p d
  space ← space_at p parts.0
  fields ← each (λ n. document_at p) 0 parts.1
  Ok (plans.insert space fields)

-- ---- follow

-- a time: a value that is a timestamp
abbrev pub time_at : Place → Data → Result Begin Place
time_at p d = value_at p d >>= λ t. found p (as_timestamp t) >>= λ at. Ok (plans.at_time at.0 at.1)

-- the start that a member of the name gives
abbrev pub begin_by : Place → List ℕ → Data → Result Begin Place
begin_by p k d = if bytes_eq k (codes "resumeAfter") then (value_at p d >>= λ t. Ok (plans.resume_after t))
    else (if bytes_eq k (codes "startAfter") then (value_at p d >>= λ t. Ok (plans.start_after t))
    else (if bytes_eq k (codes "startAt") then time_at p d else Err p))

-- a start: an object of one member
abbrev pub begin_of : Place → Data → Result Begin Place
begin_of p d = single_at p d >>= λ m. begin_by p m.0 m.1

abbrev pub begin_at : Place → Data → Result Begin Place
begin_at p d = optional (get (codes "start") d) plans.nowhere (begin_of p)

abbrev pub filter_at : Place → Data → Result (Option bson.Fields) Place
filter_at p d = optional (get (codes "match") d) None (λ e. document_at p e >>= λ fs. Ok (Some fs))

abbrev pub batch_at : Place → Data → Result (Option ℕ) Place
batch_at p d = optional (get (codes "batch") d) None (λ e. found p (small_number e) >>= λ n. Ok (Some n))

-- An object of `on`, `calls` with at most 1048576 of them, and where they are given `batch`, `match` and `start`: the name, and the two
-- numbers.
unfoldable pub followed : Place → Data → Result (List ℕ × ℕ × Option ℕ) Place
followed p d = do
  named ← guard p (has_only (codes "batch" ∷ codes "calls" ∷ codes "job" ∷ codes "match" ∷ codes "on" ∷ codes "start" ∷ []) d)
  on ← text_at p (codes "on") d
  calls ← number_at p (codes "calls") d
  few ← guard p (nat_le calls 1048576)
  batch ← batch_at p d
  Ok (on, calls, batch)

-- a follow
unfoldable pub follow_of : Place → Data → Result Task Place
follow_of p d = do
  parts ← followed p d
  target ← target_at p parts.0
  begin ← begin_at p d
  filter ← filter_at p d
  Ok (plans.follow target parts.1 begin filter parts.2)

-- ---- put and get

-- the `_id` of a file: any value
abbrev pub id_at : Place → Data → Result bson.Tree Place
id_at p d = member_at p (codes "id") d >>= λ e. value_at p e

-- the database and the name of a bucket, `fs` where none is given
unfoldable pub bucket_at : Place → Data → Result (List ℕ × List ℕ) Place
bucket_at p d = do
  db ← database_at p d
  bucket ← text_or p (codes "bucket") (codes "fs") d
  Ok (db, bucket)

-- an object of `chunk`, `db`, `id`, `name`, `pieces`, and where it is given `bucket`: its number and its items
unfoldable pub uploaded : Place → Data → Result (ℕ × Items) Place
uploaded p d = do
  named ← guard p (has_only (codes "bucket" ∷ codes "chunk" ∷ codes "db" ∷ codes "id" ∷ codes "job" ∷ codes "name" ∷ codes "pieces" ∷ []) d)
  chunk ← number_at p (codes "chunk") d
  texts ← array_at p (codes "pieces") d
  Ok (chunk, texts)

-- a put, of pieces of hexadecimal text
unfoldable pub put_of : Place → Data → Result Task Place
put_of p d = do
  parts ← uploaded p d
  bucket ← bucket_at p d
  name ← text_at p (codes "name") d
  pieces ← each (λ n. bytes_at p) 0 parts.1
  id ← id_at p d
  Ok (plans.put bucket.0 bucket.1 name id parts.0 pieces)

-- a get: `db`, `id`, `read`, and where it is given `bucket`
unfoldable pub get_of : Place → Data → Result Task Place
get_of p d = do
  named ← guard p (has_only (codes "bucket" ∷ codes "db" ∷ codes "id" ∷ codes "job" ∷ codes "read" ∷ []) d)
  size ← number_at p (codes "read") d
  bucket ← bucket_at p d
  id ← id_at p d
  Ok (plans.get bucket.0 bucket.1 id size)

-- a job, by its field `job`
unfoldable pub task_of : Place → Data → Result Task Place
task_of p d = do
  job ← text_at p (codes "job") d
  if bytes_eq job (codes "insert") then insert_of p d
      else (if bytes_eq job (codes "follow") then follow_of p d
      else (if bytes_eq job (codes "put") then put_of p d
      else (if bytes_eq job (codes "get") then get_of p d else Err p)))

-- ---- fates

-- the text of a label
abbrev pub label_of : Place → Data → Result (List ℕ) Place
label_of p d = found p (as_str d)

-- at most 1048576 labels
abbrev pub labels_at : Place → Data → Result (List (List ℕ)) Place
labels_at p d = do
  texts ← array_or p (codes "labels") d
  few ← guard p (nat_le (items_len texts) 1048576)
  each (λ n. label_of p) 0 texts

abbrev pub code_at : Place → Data → Result ℤ Place
code_at p d = optional (get (codes "code") d) (pos 0) (λ e. found p (int32_number e))

-- a refusal: where they are given `code` and `labels`
unfoldable pub refusal_of : Place → Data → Result Lot Place
refusal_of p d = do
  code ← code_at p d
  labels ← labels_at p d
  Ok (plans.refuse code labels)

-- the others, which have no code and no labels
unfoldable pub plain_of : Place → List ℕ → Data → Result Lot Place
plain_of p kind d = do
  named ← guard p (has_only (codes "kind" ∷ codes "pend" ∷ []) d)
  if bytes_eq kind (codes "keep") then Ok plans.keep
      else (if bytes_eq kind (codes "lose") then Ok plans.lose
      else (if bytes_eq kind (codes "drop") then Ok plans.dropped else Err p))

abbrev pub lot_of : Place → List ℕ → Data → Result Lot Place
lot_of p kind d = if bytes_eq kind (codes "refuse") then refusal_of p d else plain_of p kind d

-- a fate: where they are given `pend` and `kind`
unfoldable pub fate_of : Place → Data → Result Fated Place
fate_of p d = do
  named ← guard p (has_only (codes "code" ∷ codes "kind" ∷ codes "labels" ∷ codes "pend" ∷ []) d)
  pend ← number_or p (codes "pend") d
  kind ← text_or p (codes "kind") (codes "keep") d
  lot ← lot_of p kind d
  Ok (record { pend = pend; lot = lot })

-- ---- the whole

-- the number of a job
abbrev pub turn_of : Place → Data → Result ℕ Place
turn_of p d = found p (small_number d)

unfoldable pub tasks_of : Items → Result (List Task) Place
tasks_of ds = each (λ n. task_of (place.Job n)) 0 ds

unfoldable pub turns_of : Items → Result (List ℕ) Place
turns_of ds = each (λ n. turn_of (place.Order n)) 0 ds

unfoldable pub fates_of : Items → Result (List Fated) Place
fates_of ds = each (λ n. fate_of (place.Fate n)) 0 ds

abbrev pub wire_at : Place → Data → Result ℤ Place
wire_at p d = optional (get (codes "wire") d) (pos 21) (λ e. found p (natural_number e))

abbrev pub ids_at : Place → Data → Result (List ℕ) Place
ids_at p d = optional (get (codes "ids") d) (0 ∷ 0 ∷ 0 ∷ []) (λ e. found p (option_and_then (lower_bytes 3) (as_str e)))

abbrev pub moment_at : Place → Data → Result ℤ Place
moment_at p d = optional (get (codes "moment") d) (pos 0) (λ e. found p (int64_number e))

unfoldable pub scalars_at : Place → Data → Result (ℤ × List ℕ × ℤ) Place
scalars_at p d = do
  wire ← wire_at p d
  ids ← ids_at p d
  moment ← moment_at p d
  Ok (wire, ids, moment)

-- the lists of a script, none too long
pub record Lists : Type 0 where
  pub jobs : Items
  pub order : Items
  pub fates : Items

unfoldable pub lists_of : Data → Result Lists Place
lists_of d = do
  jobs ← array_at place.Top (codes "jobs") d
  order ← array_at place.Top (codes "order") d
  fates ← array_or place.Top (codes "fates") d
  few ← guard place.Top (nat_le (items_len jobs) 65536)
  short ← guard place.Top (nat_le (items_len order) 1048576)
  scant ← guard place.Top (nat_le (items_len fates) 1048576)
  Ok (record { jobs = jobs; order = order; fates = fates })

-- An object of `jobs` and `order`, and where they are given `fates`, `wire`, `ids` and `moment`.
unfoldable pub plan_of : Data → Result Plan Place
plan_of d = do
  named ← guard place.Top (has_only (codes "fates" ∷ codes "ids" ∷ codes "jobs" ∷ codes "moment" ∷ codes "order" ∷ codes "wire" ∷ []) d)
  lists ← lists_of d
  scalars ← scalars_at place.Top d
  tasks ← tasks_of lists.jobs
  turns ← turns_of lists.order
  fates ← fates_of lists.fates
  Ok (record { tasks = tasks; turns = turns; fates = fates; wire = scalars.0; ids = scalars.1; moment = scalars.2 })

-- the JSON value of the bytes (RFC 8259)
unfoldable pub data_of : List ℕ → Result Data Place
data_of bytes = if is_utf8 bytes then found place.NotJson (read bytes) else Err place.NotJson

-- the script of the bytes
abbrev pub script_of : List ℕ → Result Plan Place
script_of bytes = data_of bytes >>= plan_of

-- the first number that is not below the count
unfoldable pub first_missing : ℕ → List ℕ → Option ℕ
first_missing count [] = None
first_missing count (n ∷ ns) = if nat_lt n count then first_missing count ns else Some n

-- the first number of the order that names no job
abbrev pub missing : Plan → Option ℕ
missing p = first_missing (length p.tasks) p.turns
