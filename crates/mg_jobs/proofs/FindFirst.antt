-- The find of a get's record stands before the list of its chunks.
use Rattle.std.proofs.Common.{◌≡◌, ◌<◌, ◌≤◌, ◌++◌, ◌∷◌, [], ℕ, zero, suc, true, false, List, Option, Some, None, sym, ap, ◌∙◌, subst, inl, inr, arith}
use Rattle.std.specs.Prelude.{slice_get}
use Rattle.mg_bson.specs.Raw.{fields}
use Rattle.mg_bson.specs.Tree.{Fields}
use Rattle.mg_server.specs.Commands.{asked, asks_query}
use Rattle.mg_server.specs.Files.{chunks_space, files_space}
use Rattle.mg_link.specs.Log.{Call}
use Rattle.mg_server.specs.Owner.{IsOf}
use Rattle.mg_server.specs.Query.{Query}
use Rattle.mg_server.proofs.Owners.{same_some}
use Rattle.mg_ops.specs.Naming.{IsNamed}
use Rattle.mg_change.specs.Sent.{Falling}
use Rattle.mg_records.specs.FileRecords.{FileRecord}
use Rattle.mg_gridfs.specs.Downloaded.{chunks_query, record_query}
use Rattle.mg_gridfs.proofs.OpeningKnown.{found_asks}
use Rattle.mg_players.specs.Causes.{command_at, commands_at}
use Rattle.mg_players.specs.Buckets.{plain_bucket}
use Rattle.mg_players.specs.Gets.{GetTask, IsFindAt, chunks_find, record_find}
use Rattle.mg_players.proofs.GetListing.{bucket_is_plain, list_asks}
use Rattle.mg_jobs.proofs.PlacesRise.{Rise, below_others}

-- ---- commands that fall

-- behind the command at one place the others fall on
falls_on : (may : ℕ → Fields → Type 0) (n : ℕ) (o : Option Call) (commands : List Fields) → Falling may n (command_at o ++ commands) 1 → (m : ℕ) × (m ≤ n) × Falling may m commands 1
falls_on may n None commands falls = (n, omega arith, falls)
falls_on may n (Some call) commands falls = (falls.0, (let less = falls.1 in omega (arith, less)), falls.3)

-- below the places of the finds of the record are those of the lists
lists_at : (g : GetTask) (f : FileRecord) (place : ℕ) (command : Fields) → place < 3 → IsFindAt g (Some f) place command → command ≡ chunks_find g f.id
lists_at g f zero command low is = absurd is
lists_at g f (suc zero) command low is = is.1
lists_at g f (suc (suc zero)) command low is = is.1
lists_at g f (suc (suc (suc place))) command low is = absurd (omega (arith, low))

below_finds : (g : GetTask) (f : FileRecord) (place : ℕ) (command : Fields) → (command ≡ record_find g → ⊥) → IsFindAt g (Some f) place command → place < 3
below_finds g f zero command other is = omega arith
below_finds g f (suc zero) command other is = omega arith
below_finds g f (suc (suc zero)) command other is = omega arith
below_finds g f (suc (suc (suc place))) command other is = absurd (other is)

-- ---- the find and the list

module _ (g : GetTask) (f : FileRecord) (calls : List Call) (named : IsNamed (chunks_space g.at)) where
  abbrev Finds : Call → Type 0
  Finds call = asked call.command ≡ asks_query (record_query (files_space g.at) g.id)

  abbrev Lists : Call → Type 0
  Lists call = asked call.command ≡ asks_query (chunks_query (chunks_space g.at) f.id)

  same_query : (q r : Query) → asks_query q ≡ asks_query r → q ≡ r
  same_query q r e = cc

  -- no command is both
  not_both : (call : Call) → Finds call → Lists call → ⊥
  not_both call finds lists =
      let one : true ≡ false = ap (λ (q : Query). q.single) (same_query (record_query (files_space g.at) g.id) (chunks_query (chunks_space g.at) f.id) (sym finds ∙ lists)) in
      absurd cc

  abbrev FallsFrom : ℕ → List ℕ → Type 0
  FallsFrom n places = Falling (IsFindAt g (Some f)) n (commands_at calls places) 1

  -- the command at the first place, and those behind it
  first_falls : (n q : ℕ) (places : List ℕ) (call : Call) → slice_get calls q ≡ Some call → FallsFrom n (q ∷ places) → (place : ℕ) × (place < n) × IsFindAt g (Some f) place (fields call.command) × FallsFrom place places
  first_falls n q places call there falls = subst (λ (o : Option Call). Falling (IsFindAt g (Some f)) n (command_at o ++ commands_at calls places) 1) there falls

  -- where no find of the record is left, each command lists the chunks
  all_list : (n : ℕ) (places : List ℕ) → n ≤ 3 → FallsFrom n places → (p : ℕ) (call : Call) → IsOf places p → slice_get calls p ≡ Some call → Lists call
  all_list n [] low falls p call of there = absurd of
  all_list n (q ∷ places) low falls p call (inl same) there =
      let first = first_falls n q places call (ap (slice_get calls) same ∙ there) falls in
      let less = first.1 in
      list_asks g f.id call.command named (lists_at g f first.0 (fields call.command) (omega (arith, low, less)) first.2)
  all_list n (q ∷ places) low falls p call (inr of) there =
      let rest = falls_on (IsFindAt g (Some f)) n (slice_get calls q) (commands_at calls places) falls in
      let less = rest.1 in
      all_list rest.0 places (omega (arith, low, less)) rest.2 p call of there

  -- An opening finds its record before it lists the chunks.
  pub find_first : (at n : ℕ) (places : List ℕ) → Rise at places → FallsFrom n places → (p q : ℕ) (found listed : Call) → IsOf places p → IsOf places q → slice_get calls p ≡ Some found → slice_get calls q ≡ Some listed → Finds found → Lists listed → p < q
  find_first at n [] rise falls p q found listed of of' there there' finds lists = absurd of
  find_first at n (x ∷ places) rise falls p q found listed (inl same) (inl same') there there' finds lists =
      let one : found ≡ listed = same_some found listed (sym there ∙ ap (slice_get calls) (sym same ∙ same') ∙ there') in
      absurd (not_both listed (subst (λ (c : Call). Finds c) one finds) lists)
  find_first at n (x ∷ places) rise falls p q found listed (inl same) (inr of') there there' finds lists = below_others (x ∷ []) places at p q rise (inl same) of'
  find_first at n (x ∷ places) rise falls p q found listed (inr of) (inl same') there there' finds lists =
      let first = first_falls n x places listed (ap (slice_get calls) same' ∙ there') falls in
      let low = below_finds g f first.0 (fields listed.command) (λ is. not_both listed (found_asks (plain_bucket g.at) g.at (bucket_is_plain g named).named g.id listed.command is) lists) first.2 in
      absurd (not_both found finds (all_list first.0 places (omega (arith, low)) first.3 p found of there))
  find_first at n (x ∷ places) rise falls p q found listed (inr of) (inr of') there there' finds lists =
      let rest = falls_on (IsFindAt g (Some f)) n (slice_get calls x) (commands_at calls places) falls in
      find_first (suc x) rest.0 places rise.1 rest.2 p q found listed of of' there there' finds lists
