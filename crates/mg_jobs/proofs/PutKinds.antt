-- Of which kind the commands of a put are, place by place: a list of indexes stands behind the creation of its collection.
use Rattle.std.proofs.Common.{◌≡◌, ◌⊎◌, ◌<◌, ◌++◌, [], ◌∷◌, ℕ, ℤ, Bool, true, false, List, Option, Some, None, length, replicate, refl, sym, ap, ◌∙◌, subst, inl, inr, arith}
use Rattle.std.specs.Prelude.{slice_get}
use Rattle.mg_bson.specs.Raw.{fields}
use Rattle.mg_bson.specs.Tree.{Fields}
use Rattle.mg_server.specs.Calls.{Past}
use Rattle.mg_link.specs.Log.{Call}
use Rattle.mg_link.specs.Namespace.{Space, space}
use Rattle.mg_server.specs.Owner.{IsOf}
use Rattle.mg_ops.specs.Cursors.{next_command}
use Rattle.mg_ops.specs.Naming.{IsNamed}
use Rattle.mg_ops.proofs.Reading.{named_read}
use Rattle.mg_cursor.specs.Client.{ClientCursor, at_rest, behind_reply, new_client}
use Rattle.mg_gridfs.specs.Buckets.{ClientBucket}
use Rattle.mg_gridfs.specs.declared.indexes.Place.{Place}
use Rattle.mg_gridfs.specs.declared.indexes.Place.TheVariants as which
use Rattle.mg_players.specs.Causes.{commands_at}
use Rattle.mg_players.specs.Gets.{no_manner}
use Rattle.mg_players.specs.InTurn.{AreInTurn}
use Rattle.mg_players.specs.PutFailures.{IsOfList}
use Rattle.mg_players.specs.PutChecks.{AreGetMores, CheckSends, SendsBefore, SendsIndex, SendsList, SendsPart, SendsWhole, any_find, creation, index_creation, listing, to_creation, to_find, to_index, to_list, to_listing, to_part, where_missing}
use Rattle.mg_players.specs.PutSends.{PutSends, chunks_removal, record_at, record_insert, removal_if}
use Rattle.mg_players.specs.Puts.{PutTask, Supply, put_bucket}
use Rattle.mg_players.proofs.PutWhich.{IntoChunks}
use Rattle.mg_jobs.proofs.PlacesRise.{Rise, below_others, of_either, rise_first}
use Rattle.mg_jobs.proofs.PutParts.{Each, chunks_each, each_at, each_on, each_time, has_place, parts_at, rise_second}

-- the command at a place of a put, behind the creation of its collection where it is a list of indexes
pub data PutKind (calls : List Call) (t : PutTask) (place : ℕ) (command : Fields) : Type 0 where
  finds : command ≡ any_find (put_bucket t) → PutKind calls t place command
  creates : (at : Place) → command ≡ creation (put_bucket t) at → PutKind calls t place command
  lists : (at : Place) (before : ℕ) (call : Call) → slice_get calls before ≡ Some call → fields call.command ≡ creation (put_bucket t) at → before < place → command ≡ listing (put_bucket t) at → PutKind calls t place command
  reads_on : (id : ℤ) (space : Space) → IsNamed space → command ≡ next_command id space no_manner → PutKind calls t place command
  indexes : (at : Place) → command ≡ index_creation (put_bucket t) at → PutKind calls t place command
  into_chunks : IntoChunks t command → PutKind calls t place command
  inserts_record : (moment : ℤ) → command ≡ record_insert t moment → PutKind calls t place command
  removes : command ≡ chunks_removal t → PutKind calls t place command

module _ (calls : List Call) (t : PutTask) where
  abbrev B : ClientBucket
  B = put_bucket t

  abbrev pub AreKinds : List ℕ → Type 0
  AreKinds places = (place : ℕ) (call : Call) → IsOf places place → slice_get calls place ≡ Some call → PutKind calls t place (fields call.command)

  kinds_on : (xs ys : List ℕ) → AreKinds xs → AreKinds ys → AreKinds (xs ++ ys)
  kinds_on xs ys first second place call of there = elim (of_either xs ys place of) [ inl here ↦ first place call here there | inr later ↦ second place call later there ]

  -- it is of a kind wherever it stands
  abbrev IsPlain : Fields → Type 0
  IsPlain command = (place : ℕ) → PutKind calls t place command

  plain_kinds : (places : List ℕ) (commands : List Fields) → commands_at calls places ≡ commands → Each IsPlain commands → AreKinds places
  plain_kinds places commands are each place call of there = each_at IsPlain calls places (subst (Each IsPlain) (sym are) each) place call of there place

  -- ---- behind the creation of a collection

  abbrev IsBehind : Place → Fields → Type 0
  IsBehind at command = (command ≡ listing B at) ⊎ IsPlain command

  -- the commands are that creation and others
  record BeginWith (at : Place) (commands : List Fields) : Type 0 where
    more : List Fields
    parts : commands ≡ creation B at ∷ more
    behind : Each (IsBehind at) more

  behind_kinds : (at : Place) (low : ℕ) (places : List ℕ) (commands : List Fields) → Rise low places → commands_at calls places ≡ commands → BeginWith at commands → AreKinds places
  behind_kinds at low places commands rise are b =
      let p = parts_at calls places (creation B at ∷ []) b.more (are ∙ b.parts) in
      let one : length (commands_at calls p.front) ≡ 1 = ap length p.first in
      let c = has_place calls p.front (omega (arith, one)) in
      let is : fields c.call.command ≡ creation B at = each_at (λ (x : Fields). x ≡ creation B at) calls p.front (subst (Each (λ (x : Fields). x ≡ creation B at)) (sym p.first) (refl, tt)) c.place c.call c.of c.there in
      let rises = subst (Rise low) p.whole rise in
      subst AreKinds (sym p.whole)
      (kinds_on p.front p.back (plain_kinds p.front (creation B at ∷ []) p.first ((λ place. creates at refl), tt))
      (λ place call of there. elim (each_at (IsBehind at) calls p.back (subst (Each (IsBehind at)) (sym p.second) b.behind) place call of there) [
        | inl its ↦ lists at c.place c.call c.there is (below_others p.front p.back low c.place place rises c.of of) its
        | inr plain ↦ plain place
      ]))

  module _ (past : Past) where
    -- a cursor that is read on was told by a reply, which names a namespace that may be
    turn_named : (replies : List (ℕ × List ℕ)) (c c' : ClientCursor) (last : ℕ) → IsNamed c.space → AreInTurn past c last replies c' → IsNamed c'.space
    turn_named [] c c' last named are = subst (λ (x : ClientCursor). IsNamed x.space) (sym are) named
    turn_named (h ∷ more) c c' last named are = turn_named more (behind_reply are.5 c) c' h.0 (named_read (fields h.1) are.5 are.6) are.7

    list_named : (c : ClientCursor) → IsOfList past B c → IsNamed c.space
    list_named c l = turn_named l.replies (new_client l.out) (at_rest c) l.place (named_read (fields l.first) (record { id = l.out.info.id; space = space l.out.info.ns; token = l.out.post_batch_resume_token; batch = l.opens.opens.batch }) l.opens.opens.says) l.behind

    mores_behind : (at : Place) (commands : List Fields) → AreGetMores past B at commands → Each (IsBehind at) commands
    mores_behind at [] are = tt
    mores_behind at (command ∷ commands) are = (let more = are.0 in (inr (λ place. reads_on more.cursor.id more.cursor.space (list_named more.cursor more.of_list) more.command_is), mores_behind at commands are.1))

  list_begins : (past : Past) (at : Place) (commands : List Fields) → SendsList past B at commands → BeginWith at commands
  list_begins past at commands s = record {
    more = replicate s.asked (listing B at) ++ s.mores;
    parts = s.parts;
    behind = each_on (IsBehind at) (replicate s.asked (listing B at)) s.mores (each_time (IsBehind at) s.asked (listing B at) (inl refl)) (mores_behind past at s.mores s.read_on);
  }

  index_begins : (past : Past) (at : Place) (count : ℕ) (commands : List Fields) → SendsIndex past B at count commands → BeginWith at commands
  index_begins past at count commands s =
      let l = list_begins past at s.list s.listed in
      let made : List Fields = replicate count (index_creation B at) in
      record { more = l.more ++ made; parts = s.parts ∙ ap (λ (xs : List Fields). xs ++ made) l.parts; behind = each_on (IsBehind at) l.more made l.behind (each_time (IsBehind at) count (index_creation B at) (inr (λ place. indexes at refl))) }

  -- ---- the check

  find_kinds : (n : ℕ) (places : List ℕ) (commands : List Fields) → commands_at calls places ≡ commands → commands ≡ replicate n (any_find B) → AreKinds places
  find_kinds n places commands are is = plain_kinds places commands are (subst (Each IsPlain) (sym is) (each_time IsPlain n (any_find B) (λ place. finds refl)))

  module _ (past : Past) where
    whole_kinds : (at : Place) (low : ℕ) (places : List ℕ) (commands : List Fields) → Rise low places → commands_at calls places ≡ commands → SendsWhole past B at commands → AreKinds places
    whole_kinds at low places commands rise are s = behind_kinds at low places commands rise are (index_begins past at (where_missing s.found) commands s.ends)

    part_kinds : (at : Place) (low : ℕ) (places : List ℕ) (commands : List Fields) → Rise low places → commands_at calls places ≡ commands → SendsPart past B at commands → AreKinds places
    part_kinds at low places commands rise are (to_creation n few is) = plain_kinds places commands are (subst (Each IsPlain) (sym is) (each_time IsPlain n (creation B at) (λ place. creates at refl)))
    part_kinds at low places commands rise are (to_listing heard n few again is) =
        behind_kinds at low places commands rise are (record { more = replicate n (listing B at); parts = is; behind = each_time (IsBehind at) n (listing B at) (inl refl) })
    part_kinds at low places commands rise are (to_list heard list) = behind_kinds at low places commands rise are (list_begins past at commands list)
    part_kinds at low places commands rise are (to_index heard listed n few ends) = behind_kinds at low places commands rise are (index_begins past at n commands ends)

    before_kinds : (at : Place) (low : ℕ) (places : List ℕ) (commands : List Fields) → Rise low places → commands_at calls places ≡ commands → SendsBefore past B at commands → AreKinds places
    before_kinds which.Files low places commands rise are s = find_kinds s.0.count places commands are s.0.parts
    before_kinds which.Chunks low places commands rise are h =
        let p = parts_at calls places h.0 h.1 (are ∙ h.2) in
        let find = h.3.0 in
        subst AreKinds (sym p.whole)
        (kinds_on p.front p.back (find_kinds find.count p.front h.0 p.first find.parts) (whole_kinds which.Files low p.back h.1 (rise_second p.front p.back low (subst (Rise low) p.whole rise)) p.second h.4))

    check_kinds : (low : ℕ) (places : List ℕ) (commands : List Fields) → Rise low places → commands_at calls places ≡ commands → CheckSends past B commands → AreKinds places
    check_kinds low places commands rise are (to_find n few again is) = find_kinds n places commands are is
    check_kinds low places commands rise are (to_part at h) =
        let p = parts_at calls places h.front h.part (are ∙ h.parts) in
        let rises = subst (Rise low) p.whole rise in
        subst AreKinds (sym p.whole)
        (kinds_on p.front p.back (before_kinds at low p.front h.front (rise_first p.front p.back low rises) p.first h.before) (part_kinds at low p.back h.part (rise_second p.front p.back low rises) p.second h.its))

    -- ---- all of them

    record_plain : (moment : Option ℤ) → Each IsPlain (record_at t moment)
    record_plain None = tt
    record_plain (Some m) = ((λ place. inserts_record m refl), tt)

    removal_plain : (removed : Bool) → Each IsPlain (removal_if t removed)
    removal_plain false = tt
    removal_plain true = ((λ place. removes refl), tt)

    pub put_kinds : (supply : Supply) (low : ℕ) (places : List ℕ) (commands : List Fields) (upto : ℕ) (moment : Option ℤ) (removed : Bool) → Rise low places → commands_at calls places ≡ commands → PutSends supply t past commands upto moment removed → AreKinds places
    put_kinds supply low places commands upto moment removed rise are s =
        let a = parts_at calls places s.check (s.chunks ++ (record_at t moment ++ removal_if t removed)) (are ∙ s.parts) in
        let b = parts_at calls a.back s.chunks (record_at t moment ++ removal_if t removed) a.second in
        let r = parts_at calls b.back (record_at t moment) (removal_if t removed) b.second in
        subst AreKinds (sym a.whole)
        (kinds_on a.front a.back (check_kinds low a.front s.check (rise_first a.front a.back low (subst (Rise low) a.whole rise)) a.first s.of_check)
        (subst AreKinds (sym b.whole)
        (kinds_on b.front b.back (λ place call of there. into_chunks (each_at (IntoChunks t) calls b.front (subst (Each (IntoChunks t)) (sym b.first) (chunks_each supply t 0 s.chunks upto s.pieces)) place call of there))
        (subst AreKinds (sym r.whole) (kinds_on r.front r.back (plain_kinds r.front (record_at t moment) r.first (record_plain moment)) (plain_kinds r.back (removal_if t removed) r.second (removal_plain removed)))))))
