-- Where in its log the commands of a put stand, and that it sends nothing behind its record but the removal of its chunks.
use Rattle.std.proofs.Common.{◌≡◌, ◌<◌, ◌≤◌, ◌++◌, ◌∷◌, [], ℕ, ℤ, zero, suc, Bool, true, false, List, Option, Some, None, length, replicate, refl, sym, ap, ◌∙◌, subst, inl, inr, arith, length-append}
use Rattle.std.specs.Prelude.{slice_get}
use Rattle.mg_bson.specs.Raw.{fields}
use Rattle.mg_bson.specs.Tree.{Fields}
use Rattle.mg_server.specs.Files.{chunks_space, files_space}
use Rattle.mg_server.specs.Calls.{Past}
use Rattle.mg_link.specs.Log.{Call}
use Rattle.mg_server.specs.Owner.{IsOf}
use Rattle.mg_options.specs.Fields.{Line, fields_in}
use Rattle.mg_ops.specs.Naming.{IsNamed}
use Rattle.mg_gridfs.specs.Buckets.{ClientBucket}
use Rattle.mg_gridfs.specs.Commands.{any_lines, chunk_documents, creation_lines, index_lines, listing_lines}
use Rattle.mg_gridfs.specs.Causes.{IsOfCheck, a_creation, a_find, a_listing, an_index}
use Rattle.mg_gridfs.specs.declared.indexes.Place.{Place}
use Rattle.mg_gridfs.specs.declared.indexes.Place.TheVariants as place
use Rattle.mg_players.specs.Causes.{Course, command_at, commands_at, places_of}
use Rattle.mg_jobs.proofs.PlacesRise.{Rise, below_others, of_either, of_first, of_rise, of_second, rise_above}
use Rattle.mg_players.specs.PutChecks.{AreGetMores, CheckSends, SendsBefore, SendsIndex, SendsList, SendsPart, SendsWhole, any_find, creation, index_creation, listing, to_creation, to_find, to_index, to_list, to_listing, to_part, where_missing}
use Rattle.mg_players.specs.PutSends.{of_check, reads_on, ChunkPieces, IsCheckCommand, PutSends, chunks_removal, record_at, record_insert, removal_if}
use Rattle.mg_players.specs.Puts.{PutTask, Supply, put_bucket}
use Rattle.mg_players.proofs.PutWhich.{IntoChunks, check_no_record, check_no_removal, chunks_no_record, chunks_no_removal, record_no_removal}

-- ---- each of some commands

abbrev pub Each : (Fields → Type 0) → List Fields → Type 0
Each P [] = Unit {0}
Each P (x ∷ xs) = P x × Each P xs

each_behind : (P : Fields → Type 0) (o : Option Call) (xs : List Fields) → Each P (command_at o ++ xs) → Each P xs
each_behind P None xs h = h
each_behind P (Some call) xs h = h.1

-- what holds of each command at some places holds of that at one of them
pub each_at : (P : Fields → Type 0) (calls : List Call) (places : List ℕ) → Each P (commands_at calls places) → (p : ℕ) (call : Call) → IsOf places p → slice_get calls p ≡ Some call → P (fields call.command)
each_at P calls [] h p call of there = absurd of
each_at P calls (q ∷ places) h p call (inl same) there =
    (subst (λ (o : Option Call). Each P (command_at o ++ commands_at calls places)) (ap (slice_get calls) same ∙ there) h).0
each_at P calls (q ∷ places) h p call (inr of) there = each_at P calls places (each_behind P (slice_get calls q) (commands_at calls places) h) p call of there

-- ---- places in parts

-- the first places have the first commands, and the others the others
pub record Parts (calls : List Call) (places : List ℕ) (xs ys : List Fields) : Type 0 where
  pub front : List ℕ
  pub back : List ℕ
  pub whole : places ≡ front ++ back
  pub first : commands_at calls front ≡ xs
  pub second : commands_at calls back ≡ ys

head_is : (x y : Fields) (xs ys : List Fields) → x ∷ xs ≡ y ∷ ys → x ≡ y
head_is x y xs ys h = cc

tail_is : (x y : Fields) (xs ys : List Fields) → x ∷ xs ≡ y ∷ ys → xs ≡ ys
tail_is x y xs ys h = cc

pub parts_at : (calls : List Call) (places : List ℕ) (xs ys : List Fields) → commands_at calls places ≡ xs ++ ys → Parts calls places xs ys
parts_at calls [] [] ys is = record { front = []; back = []; whole = refl; first = refl; second = is }
parts_at calls [] (x ∷ xs) ys is = absurd cc
parts_at calls (p ∷ places) [] ys is = record { front = []; back = p ∷ places; whole = refl; first = refl; second = is }
parts_at calls (p ∷ places) (x ∷ xs) ys is = by_call (λ so. parts_at calls places (x ∷ xs) ys so) (λ so. parts_at calls places xs ys so) (slice_get calls p) refl is
  where
    by_call : (commands_at calls places ≡ x ∷ (xs ++ ys) → Parts calls places (x ∷ xs) ys) → (commands_at calls places ≡ xs ++ ys → Parts calls places xs ys) → (o : Option Call) → slice_get calls p ≡ o → command_at o ++ commands_at calls places ≡ x ∷ (xs ++ ys) → Parts calls (p ∷ places) (x ∷ xs) ys
    by_call same next None none so =
        let r = same so in
        record {
          front = p ∷ r.front;
          back = r.back;
          whole = ap (λ (l : List ℕ). p ∷ l) r.whole;
          first = ap (λ (o : Option Call). command_at o ++ commands_at calls r.front) none ∙ r.first;
          second = r.second;
        }
    by_call same next (Some call) there so =
        let r = next (tail_is (fields call.command) x (commands_at calls places) (xs ++ ys) so) in
        record {
          front = p ∷ r.front;
          back = r.back;
          whole = ap (λ (l : List ℕ). p ∷ l) r.whole;
          first = ap (λ (o : Option Call). command_at o ++ commands_at calls r.front) there ∙ ap (λ (d : Fields). d ∷ commands_at calls r.front) (head_is (fields call.command) x (commands_at calls places) (xs ++ ys) so) ∙ ap (λ (l : List Fields). x ∷ l) r.first;
          second = r.second;
        }

-- one command stands at a place, and another at another one: they are two
one_there : (calls : List Call) (places : List ℕ) (p : ℕ) (call : Call) → IsOf places p → slice_get calls p ≡ Some call → 1 ≤ length (commands_at calls places)
one_there calls [] p call of there = absurd of
one_there calls (q ∷ places) p call (inl same) there =
    let is : command_at (slice_get calls q) ≡ fields call.command ∷ [] = ap command_at (ap (slice_get calls) same ∙ there) in
    let long = length-append (command_at (slice_get calls q)) (commands_at calls places) in
    let one : length (command_at (slice_get calls q)) ≡ 1 = ap length is in
    omega (arith, long, one)
one_there calls (q ∷ places) p call (inr of) there =
    let long = length-append (command_at (slice_get calls q)) (commands_at calls places) in
    let more = one_there calls places p call of there in
    omega (arith, long, more)

pub two_there : (calls : List Call) (places : List ℕ) (p q : ℕ) (call other : Call) → p < q → IsOf places p → IsOf places q → slice_get calls p ≡ Some call → slice_get calls q ≡ Some other → 2 ≤ length (commands_at calls places)
two_there calls [] p q call other less of of' there there' = absurd of
two_there calls (r ∷ places) p q call other less (inl same) (inl same') there there' = absurd (omega (arith, less, same, same'))
two_there calls (r ∷ places) p q call other less (inl same) (inr of') there there' =
    let is : command_at (slice_get calls r) ≡ fields call.command ∷ [] = ap command_at (ap (slice_get calls) same ∙ there) in
    let long = length-append (command_at (slice_get calls r)) (commands_at calls places) in
    let one : length (command_at (slice_get calls r)) ≡ 1 = ap length is in
    let more = one_there calls places q other of' there' in
    omega (arith, long, one, more)
two_there calls (r ∷ places) p q call other less (inr of) (inl same') there there' =
    let is : command_at (slice_get calls r) ≡ fields other.command ∷ [] = ap command_at (ap (slice_get calls) same' ∙ there') in
    let long = length-append (command_at (slice_get calls r)) (commands_at calls places) in
    let one : length (command_at (slice_get calls r)) ≡ 1 = ap length is in
    let more = one_there calls places p call of there in
    omega (arith, long, one, more)
two_there calls (r ∷ places) p q call other less (inr of) (inr of') there there' =
    let long = length-append (command_at (slice_get calls r)) (commands_at calls places) in
    let more = two_there calls places p q call other less of of' there there' in
    omega (arith, long, more)

-- ---- the commands of the check

pub each_on : (P : Fields → Type 0) (xs ys : List Fields) → Each P xs → Each P ys → Each P (xs ++ ys)
each_on P [] ys front back = back
each_on P (x ∷ xs) ys front back = (front.0, each_on P xs ys front.1 back)

pub each_time : (P : Fields → Type 0) (n : ℕ) (x : Fields) → P x → Each P (replicate n x)
each_time P zero x its = tt
each_time P (suc n) x its = (its, each_time P n x its)

module _ (past : Past) (b : ClientBucket) where
  abbrev pub AreOfCheck : List Fields → Type 0
  AreOfCheck commands = Each (IsCheckCommand b) commands

  so_often : (n : ℕ) (lines : List Line) → IsOfCheck b lines → AreOfCheck (replicate n (fields_in lines))
  so_often n lines of = each_time (IsCheckCommand b) n (fields_in lines) (of_check lines of refl)

  mores_each : (k : Place) (commands : List Fields) → AreGetMores past b k commands → AreOfCheck commands
  mores_each k [] are = tt
  mores_each k (command ∷ commands) are = let more = are.0 in (reads_on more.cursor.id more.cursor.space more.command_is, mores_each k commands are.1)

  created : (k : Place) → IsCheckCommand b (creation b k)
  created k = of_check (creation_lines b k) (a_creation k refl) refl

  list_each : (k : Place) (commands : List Fields) → SendsList past b k commands → AreOfCheck commands
  list_each k commands s =
      subst AreOfCheck (sym s.parts) (created k, each_on (IsCheckCommand b) (replicate s.asked (listing b k)) s.mores (so_often s.asked (listing_lines b k) (a_listing k refl)) (mores_each k s.mores s.read_on))

  index_each : (k : Place) (count : ℕ) (commands : List Fields) → SendsIndex past b k count commands → AreOfCheck commands
  index_each k count commands e = subst AreOfCheck (sym e.parts) (each_on (IsCheckCommand b) e.list (replicate count (index_creation b k)) (list_each k e.list e.listed) (so_often count (index_lines b k) (an_index k refl)))

  whole_each : (k : Place) (commands : List Fields) → SendsWhole past b k commands → AreOfCheck commands
  whole_each k commands s = index_each k (where_missing s.found) commands s.ends

  part_each : (k : Place) (commands : List Fields) → SendsPart past b k commands → AreOfCheck commands
  part_each k commands (to_creation n few is) = subst AreOfCheck (sym is) (so_often n (creation_lines b k) (a_creation k refl))
  part_each k commands (to_listing heard n few again is) = subst AreOfCheck (sym is) (created k, so_often n (listing_lines b k) (a_listing k refl))
  part_each k commands (to_list heard list) = list_each k commands list
  part_each k commands (to_index heard listed n few ends) = index_each k n commands ends

  find_each : (n : ℕ) (commands : List Fields) → commands ≡ replicate n (any_find b) → AreOfCheck commands
  find_each n commands is = subst AreOfCheck (sym is) (so_often n (any_lines b) (a_find refl))

  before_each : (k : Place) (commands : List Fields) → SendsBefore past b k commands → AreOfCheck commands
  before_each place.Files commands s = find_each s.0.count commands s.0.parts
  before_each place.Chunks commands h =
      let find = h.3.0 in
      subst AreOfCheck (sym h.2) (each_on (IsCheckCommand b) h.0 h.1 (find_each find.count h.0 find.parts) (whole_each place.Files h.1 h.4))

  check_each : (commands : List Fields) → CheckSends past b commands → AreOfCheck commands
  check_each commands (to_find n few again is) = find_each n commands is
  check_each commands (to_part k h) = subst AreOfCheck (sym h.parts) (each_on (IsCheckCommand b) h.front h.part (before_each k h.front h.before) (part_each k h.part h.its))

-- ---- which is which

pub chunks_each : (supply : Supply) (t : PutTask) (from : ℕ) (commands : List Fields) (upto : ℕ) → ChunkPieces supply t from commands upto → Each (IntoChunks t) commands
chunks_each supply t from [] upto pieces = tt
chunks_each supply t from (command ∷ commands) upto pieces =
    let first = pieces.1 in
    ((chunk_documents first.ids 0 t.id from first.piece, first.command_is), chunks_each supply t pieces.0 commands upto pieces.2)

-- ---- behind the record

-- a call stands at one of these places
pub record HasPlace (calls : List Call) (places : List ℕ) : Type 0 where
  pub place : ℕ
  pub of : IsOf places place
  pub call : Call
  pub there : slice_get calls place ≡ Some call

-- a call that has the chunks removed stands at one of these places
pub record StandsAt (t : PutTask) (calls : List Call) (places : List ℕ) : Type 0 where
  pub place : ℕ
  pub of : IsOf places place
  pub call : Call
  pub there : slice_get calls place ≡ Some call
  pub removes : fields call.command ≡ chunks_removal t

pub has_place : (calls : List Call) (places : List ℕ) → 1 ≤ length (commands_at calls places) → HasPlace calls places
has_place calls [] some = absurd (omega (arith, some))
has_place calls (q ∷ places) some = by_call (λ more. has_place calls places more) (slice_get calls q) refl some
  where
    by_call : (1 ≤ length (commands_at calls places) → HasPlace calls places) → (o : Option Call) → slice_get calls q ≡ o → 1 ≤ length (command_at o ++ commands_at calls places) → HasPlace calls (q ∷ places)
    by_call next None none more = let h = next more in record { place = h.place; of = inr h.of; call = h.call; there = h.there }
    by_call next (Some call) there more = record { place = q; of = inl refl; call = call; there = there }

pub rise_second : (xs ys : List ℕ) (at : ℕ) → Rise at (xs ++ ys) → Rise at ys
rise_second [] ys at r = r
rise_second (x ∷ xs) ys at r = let low : at ≤ x = r.0 in rise_above ys at (suc x) (omega (arith, low)) (rise_second xs ys (suc x) r.1)

few_records : (t : PutTask) (moment : Option ℤ) → length (record_at t moment) ≤ 1
few_records t None = omega arith
few_records t (Some m) = omega arith

removals_each : (t : PutTask) (removed : Bool) → Each (λ command. command ≡ chunks_removal t) (removal_if t removed)
removals_each t false = tt
removals_each t true = (refl, tt)

few_removals : (t : PutTask) (removed : Bool) → length (removal_if t removed) ≤ 1
few_removals t false = omega arith
few_removals t true = omega arith

module _ (supply : Supply) (t : PutTask) (ever : Past) (c : Course) (i : ℕ) (calls : List Call) (upto : ℕ) (moment : Option ℤ) (removed : Bool) (s : PutSends supply t ever (commands_at calls (places_of c i)) upto moment removed) (files : IsNamed (files_space t.at)) (chunks : IsNamed (chunks_space t.at)) where
  checking : Parts calls (places_of c i) s.check (s.chunks ++ (record_at t moment ++ removal_if t removed))
  checking = parts_at calls (places_of c i) s.check (s.chunks ++ (record_at t moment ++ removal_if t removed)) s.parts

  inserting : Parts calls checking.back s.chunks (record_at t moment ++ removal_if t removed)
  inserting = parts_at calls checking.back s.chunks (record_at t moment ++ removal_if t removed) checking.second

  ending : Parts calls inserting.back (record_at t moment) (removal_if t removed)
  ending = parts_at calls inserting.back (record_at t moment) (removal_if t removed) inserting.second

  abbrev A : List ℕ
  A = checking.front

  abbrev B : List ℕ
  B = inserting.front

  abbrev R : List ℕ
  R = ending.front

  abbrev D : List ℕ
  D = ending.back

  whole : places_of c i ≡ A ++ (B ++ (R ++ D))
  whole = checking.whole ∙ ap (λ (l : List ℕ). A ++ l) (inserting.whole ∙ ap (λ (l : List ℕ). B ++ l) ending.whole)

  rise : Rise c.begun (A ++ (B ++ (R ++ D)))
  rise = subst (Rise c.begun) whole (of_rise c i)

  checks_there : (p : ℕ) (call : Call) → IsOf A p → slice_get calls p ≡ Some call → IsCheckCommand (put_bucket t) (fields call.command)
  checks_there = each_at (IsCheckCommand (put_bucket t)) calls A (subst (Each (IsCheckCommand (put_bucket t))) (sym checking.first) (check_each ever (put_bucket t) s.check s.of_check))

  chunks_there : (p : ℕ) (call : Call) → IsOf B p → slice_get calls p ≡ Some call → IntoChunks t (fields call.command)
  chunks_there = each_at (IntoChunks t) calls B (subst (Each (IntoChunks t)) (sym inserting.first) (chunks_each supply t 0 s.chunks upto s.pieces))

  removal_there : (p : ℕ) (call : Call) → IsOf D p → slice_get calls p ≡ Some call → fields call.command ≡ chunks_removal t
  removal_there = each_at (λ command. command ≡ chunks_removal t) calls D (subst (Each (λ command. command ≡ chunks_removal t)) (sym ending.second) (removals_each t removed))

  in_record : (m : ℤ) (p : ℕ) (call : Call) → IsOf (places_of c i) p → slice_get calls p ≡ Some call → fields call.command ≡ record_insert t m → IsOf R p
  in_record m p call of there is = elim (of_either A (B ++ (R ++ D)) p (subst (λ (l : List ℕ). IsOf l p) whole of)) [
    | inl first ↦ absurd (check_no_record t files chunks call.command (checks_there p call first there) m is)
    | inr later ↦ elim (of_either B (R ++ D) p later) [
      | inl second ↦ absurd (chunks_no_record t files chunks call.command (chunks_there p call second there) m is)
      | inr last ↦ elim (of_either R D p last) [
        | inl here ↦ here
        | inr behind ↦ absurd (record_no_removal t files chunks call.command m is (removal_there p call behind there))
      ]
    ]
  ]

  -- What a put sends behind its record removes the chunks.
  pub behind_record : (m : ℤ) (p q : ℕ) (call other : Call) → IsOf (places_of c i) p → IsOf (places_of c i) q → slice_get calls p ≡ Some call → slice_get calls q ≡ Some other → fields call.command ≡ record_insert t m → p < q → fields other.command ≡ chunks_removal t
  behind_record m p q call other of of' there there' is less =
      let here = in_record m p call of there is in
      let rest : IsOf (R ++ D) p = of_first R D p here in
      elim (of_either A (B ++ (R ++ D)) q (subst (λ (l : List ℕ). IsOf l q) whole of')) [
        | inl first ↦ (let before = below_others A (B ++ (R ++ D)) c.begun q p rise first (of_second B (R ++ D) p rest) in absurd (omega (arith, before, less)))
        | inr later ↦ elim (of_either B (R ++ D) q later) [
          | inl second ↦ (let before = below_others B (R ++ D) c.begun q p (rise_second A (B ++ (R ++ D)) c.begun rise) second rest in absurd (omega (arith, before, less)))
          | inr last ↦ elim (of_either R D q last) [
            | inl both ↦ (let two = two_there calls R p q call other less here both there there' in let one = few_records t moment in let long : length (commands_at calls R) ≡ length (record_at t moment) = ap length ending.first in absurd (omega (arith, two, one, long)))
            | inr behind ↦ removal_there q other behind there'
          ]
        ]
      ]

  in_removal : (p : ℕ) (call : Call) → IsOf (places_of c i) p → slice_get calls p ≡ Some call → fields call.command ≡ chunks_removal t → IsOf D p
  in_removal p call of there is = elim (of_either A (B ++ (R ++ D)) p (subst (λ (l : List ℕ). IsOf l p) whole of)) [
    | inl first ↦ absurd (check_no_removal t files chunks call.command (checks_there p call first there) is)
    | inr later ↦ elim (of_either B (R ++ D) p later) [
      | inl second ↦ absurd (chunks_no_removal t files chunks call.command (chunks_there p call second there) is)
      | inr last ↦ elim (of_either R D p last) [
        | inl record_so ↦ absurd (by_moment moment refl p call record_so there is)
        | inr behind ↦ behind
      ]
    ]
  ]
    where
      by_moment : (o : Option ℤ) → moment ≡ o → (p : ℕ) (call : Call) → IsOf R p → slice_get calls p ≡ Some call → fields call.command ≡ chunks_removal t → ⊥
      by_moment None none p call here there is =
          each_at (λ command. ⊥) calls R (subst (Each (λ command. ⊥)) (sym (ending.first ∙ ap (record_at t) none)) tt) p call here there
      by_moment (Some m) some p call here there is =
          record_no_removal t files chunks call.command m (each_at (λ command. command ≡ record_insert t m) calls R (subst (Each (λ command. command ≡ record_insert t m)) (sym (ending.first ∙ ap (record_at t) some)) (refl, tt)) p call here there) is

  -- The removal stands at one place.
  pub removal_once : (p q : ℕ) (call other : Call) → IsOf (places_of c i) p → IsOf (places_of c i) q → slice_get calls p ≡ Some call → slice_get calls q ≡ Some other → fields call.command ≡ chunks_removal t → fields other.command ≡ chunks_removal t → p < q → ⊥
  removal_once p q call other of of' there there' is is' less =
      let two = two_there calls D p q call other less (in_removal p call of there is) (in_removal q other of' there' is') there there' in
      let one = few_removals t removed in
      let long : length (commands_at calls D) ≡ length (removal_if t removed) = ap length ending.second in
      omega (arith, two, one, long)

  removals_many : 1 ≤ length (removal_if t removed) → 1 ≤ length (commands_at calls D)
  removals_many some = let long : length (commands_at calls D) ≡ length (removal_if t removed) = ap length ending.second in omega (arith, some, long)

  -- each of its places
  of_removals : (p : ℕ) → IsOf D p → IsOf (places_of c i) p
  of_removals p of = subst (λ (l : List ℕ). IsOf l p) (sym whole) (of_second A (B ++ (R ++ D)) p (of_second B (R ++ D) p (of_second R D p of)))

  -- where it removes them, its removal stands at a place
  pub removal_stands : 1 ≤ length (removal_if t removed) → StandsAt t calls (places_of c i)
  removal_stands some =
      let h = has_place calls D (removals_many some) in
      record { place = h.place; of = of_removals h.place h.of; call = h.call; there = h.there; removes = removal_there h.place h.call h.of h.there }

  -- where it does not, none does
  pub removes_none : removed ≡ false → (p : ℕ) (call : Call) → IsOf (places_of c i) p → slice_get calls p ≡ Some call → fields call.command ≡ chunks_removal t → ⊥
  removes_none none p call of there is =
      each_at (λ command. ⊥) calls D (subst (Each (λ command. ⊥)) (sym (ending.second ∙ ap (removal_if t) none)) tt) p call (in_removal p call of there is) there
