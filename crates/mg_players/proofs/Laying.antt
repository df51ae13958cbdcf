-- What a put knows of the step of its record goes on to hold, as the log grows.
use Rattle.std.proofs.Common.{◌≡◌, ◌<◌, ◌≤◌, ◌++◌, ◌∷◌, [], ℕ, ℤ, List, Option, Some, None, length, take, refl, sym, ap, ◌∙◌, subst, inl, inr, arith}
use Rattle.std.specs.Prelude.{slice_get}
use Rattle.std.proofs.lemmas.Bool.{cases_lt}
use Rattle.std.proofs.lemmas.List.{take-append-le, take_at}
use Rattle.mg_bson.specs.Raw.{fields}
use Rattle.mg_bson.specs.Tree.{Fields}
use Rattle.mg_server.specs.Calls.{AddsOnly, IsOwn, Past, past_of}
use Rattle.mg_server.specs.Files.{AreChunks, LeavesFile, file_of}
use Rattle.mg_server.specs.Filing.{IsOwnStep, KnowsFile, OthersLeave, part, stays}
use Rattle.mg_server.specs.History.{IsLegal, Step, state_of}
use Rattle.mg_link.specs.Log.{Call}
use Rattle.mg_server.specs.Owner.{Onward, nobody}
use Rattle.mg_server.specs.Standing.{Stands}
use Rattle.mg_server.proofs.Owners.{BackTo, back_to, same_some, stands_without}
use Rattle.mg_link.proofs.Places.{get_front, get_push, get_seam, get_some, get_within}
use Rattle.mg_gridfs.specs.Uploads.{Doing, Phase, begins, busy, checks, closed, ends, fills, idle, inserts, lands, lasts, records, removes, rests, undoes}
use Rattle.mg_link.specs.Exec.{Stage, first, second, unsent}
use Rattle.mg_players.specs.Laying.{DoingLays, HasAllChunks, IsNoRecord, IsRecordStep, LaysAll, PhaseLays, SendsNoRecord}
use Rattle.mg_players.specs.PutSends.{Around, file_chunks, record_insert}
use Rattle.mg_players.specs.Puts.{PutTask}

-- one that has not sent the record has no step of it
pub none_laid : (past : Past) (t : PutTask) → SendsNoRecord past t → LaysAll past t
none_laid past t none history legal stands others position x = absurd (none x.own.place x.own.call x.own.own x.own.there x.moment x.inserts)

-- ---- fronts of histories

taken_front : (history before tail : List Step) (position : ℕ) → history ≡ before ++ tail → position < length before → take position history ≡ take position before
taken_front history before tail position whole less = ap (take position) whole ∙ take-append-le position before tail (omega (arith, less))

-- nobody else touched the file in a front whose own steps were own ones before
others_front : (t : PutTask) (past past' : Past) (history before tail : List Step) → history ≡ before ++ tail → ((position : ℕ) → position < length before → IsOwnStep past' position → IsOwnStep past position) → ((position : ℕ) → IsOwnStep past position → IsOwnStep past' position)
    → (others : OthersLeave past' history t.at t.id) → others.from ≤ length before → OthersLeave past before t.at t.id
others_front t past past' history before tail whole back on others early =
    let front : take others.from history ≡ take others.from before = ap (take others.from) whole ∙ take-append-le others.from before tail early in
    record {
      from = others.from;
      nothing = ap (λ (h : List Step). file_of (state_of h) t.at t.id) (sym front) ∙ others.nothing;
      later = λ position own. others.later position (on position own);
      each = λ position step low there.
          let less = get_within before position step there in
          elim (others.each position step low (ap (λ (h : List Step). slice_get h position) whole ∙ get_front before tail position step there)) [
            | inl own ↦ inl (back position less own)
            | inr leaves ↦ inr (subst (λ (h : List Step). LeavesFile (state_of h) step t.at t.id) (taken_front history before tail position whole less) leaves)
          ];
    }

-- ---- a longer log without a call of its own that is new

module _ (t : PutTask) (past past' : Past) (onward : Onward past.calls past'.calls nobody) (back : (place : ℕ) (call : Call) → IsOwn past' place → slice_get past'.calls place ≡ Some call → IsOwn past place × ((c : Call) × (slice_get past.calls place ≡ Some c))) (on : (place : ℕ) (call : Call) → IsOwn past place → slice_get past.calls place ≡ Some call → IsOwn past' place) where
  own_later : (position : ℕ) → IsOwnStep past position → IsOwnStep past' position
  own_later position own =
      let g = onward.grown.keeps own.place own.call own.there in
      record { place = own.place; own = on own.place own.call own.own own.there; call = g.0; there = g.1; placed = g.3 ∙ own.placed }

  own_before : (position : ℕ) (own : IsOwnStep past' position) → (o : IsOwnStep past position) × (o.call.command ≡ own.call.command)
  own_before position own =
      let b = back own.place own.call own.own own.there in
      let g = onward.grown.keeps own.place b.1.0 b.1.1 in
      let same : own.call ≡ g.0 = same_some own.call g.0 (sym own.there ∙ g.1) in (
        record { place = own.place; own = b.0; call = b.1.0; there = b.1.1; placed = sym g.3 ∙ ap (λ (c : Call). c.position) (sym same) ∙ own.placed },
        sym g.2 ∙ ap (λ (c : Call). c.command) (sym same),
      )

  pub laid_later : LaysAll past t → LaysAll past' t
  laid_later lays history legal stands others position x =
      let e = onward.earlier history legal stands in
      let o = own_before position x.own in
      let s = e.stands.same o.0.place o.0.call position o.0.there o.0.placed in
      let less = get_within e.before position s.0 s.1 in
      let early = others.later position x.own in
      let others_so = others_front t past past' history e.before e.tail e.whole (λ p within own. (own_before p own).0) own_later others (omega (arith, early, less)) in
      subst (λ (h : List Step). HasAllChunks (state_of h) t) (sym (taken_front history e.before e.tail position e.whole less))
      (lays e.before e.legal e.stands others_so position (record { own = o.0; moment = x.moment; inserts = ap fields o.1 ∙ x.inserts }))

  pub none_later : SendsNoRecord past t → SendsNoRecord past' t
  none_later none place call own there moment is =
      let b = back place call own there in
      let g = onward.grown.keeps place b.1.0 b.1.1 in
      let same : call ≡ g.0 = same_some call g.0 (sym there ∙ g.1) in
      none place b.1.0 b.0 b.1.1 moment (ap fields (sym g.2 ∙ ap (λ (c : Call). c.command) (sym same)) ∙ is)

  around_later : (stage : Stage) → Around stage (SendsNoRecord past t) (LaysAll past t) → Around stage (SendsNoRecord past' t) (LaysAll past' t)
  around_later unsent h = none_later h
  around_later (first ticket) h = laid_later h
  around_later (second ticket) h = laid_later h

  phase_later : (p : Phase) → PhaseLays past t p → PhaseLays past' t p
  phase_later begins h = none_later h
  phase_later (checks c) h = none_later h
  phase_later fills h = none_later h
  phase_later (inserts s count) h = none_later h
  phase_later (rests moment) h = none_later h
  phase_later (lasts s ending) h = none_later h
  phase_later (ends ending) h = none_later h
  phase_later (records s ending) h = around_later s.stage h
  phase_later (lands flight error) h = absurd h
  phase_later (undoes error) h = laid_later h
  phase_later (removes s error) h = laid_later h

  pub doing_later : (d : Doing) → DoingLays past t d → DoingLays past' t d
  doing_later idle h = none_later h
  doing_later (busy call p) h = phase_later p h
  doing_later closed h = laid_later h

-- ---- a call of its own was sent

-- all chunks of the file are known to be there, and no record
abbrev pub KnowsAll : Past → PutTask → Type 0
KnowsAll past t = (chunks : List Fields) × AreChunks 0 (file_chunks t) chunks × KnowsFile past t.at t.id (stays (part chunks))

module _ (t : PutTask) (places : List ℕ) (since : ℕ) (calls : List Call) (call : Call) (wire : ℤ) where
  abbrev Before : Past
  Before = past_of places since calls wire

  abbrev Behind : Past
  Behind = past_of places since (calls ++ call ∷ []) wire

  -- another step than that of the call was one before
  own_old : (position : ℕ) → IsOwnStep Behind position → (call.position ≡ Some position → ⊥) → IsOwnStep Before position
  own_old position own other = elim (get_push calls call own.place own.call own.there) [
    | inl old ↦ record { place = own.place; own = own.own; call = own.call; there = old; placed = own.placed }
    | inr new ↦ absurd (other (ap (λ (c : Call). c.position) new.1 ∙ own.placed))
  ]

  -- and is one now
  own_new : (position : ℕ) → IsOwnStep Before position → IsOwnStep Behind position
  own_new position own = record { place = own.place; own = own.own; call = own.call; there = get_front calls (call ∷ []) own.place own.call own.there; placed = own.placed }

  -- nobody else touched the file before the call took effect
  others_before : (history : List Step) (q : ℕ) → call.position ≡ Some q → (back : BackTo calls call history q) → (others : OthersLeave Behind history t.at t.id) → others.from ≤ q → OthersLeave Before back.before t.at t.id
  others_before history q placed back others early =
      let here = back.place in
      others_front t Before Behind history back.before (back.step ∷ back.rest) back.whole (λ position less own. own_old position own (λ at. let same : q ≡ position = same_some q position (sym placed ∙ at) in omega (arith, same, here, less))) own_new others (omega (arith, early, here))

  -- a call that never took effect is no step
  others_without : (history : List Step) → call.position ≡ None → OthersLeave Behind history t.at t.id → OthersLeave Before history t.at t.id
  others_without history none others =
      record {
        from = others.from;
        nothing = others.nothing;
        later = λ position own. others.later position (own_new position own);
        each = λ position step low there. elim (others.each position step low there) [
          | inl own ↦ inl (own_old position own (λ at. let bad : None ≡ Some position = sym none ∙ at in cc))
          | inr leaves ↦ inr leaves
        ];
      }

  -- a record that was sent before
  by_old : LaysAll Before t → (history : List Step) → IsLegal history → Stands (calls ++ call ∷ []) history → OthersLeave Behind history t.at t.id → (position : ℕ) (x : IsRecordStep Before t position) → x.own.place < length calls → (o : Option ℕ) → call.position ≡ o → HasAllChunks (state_of (take position history)) t
  by_old lays history legal stands others position x less None none = lays history legal (stands_without calls call history stands none legal) (others_without history none others) position x
  by_old lays history legal stands others position x less (Some q) placed =
      let back = back_to calls call history stands q placed legal in
      let here = back.place in
      let behind = others.later position (own_new position x.own) in
      let early : position < q = stands.rising x.own.place (length calls) x.own.call call position q less (get_front calls (call ∷ []) x.own.place x.own.call x.own.there) (get_seam calls [] call) x.own.placed placed in
      subst (λ (h : List Step). HasAllChunks (state_of h) t) (sym (taken_front history back.before (back.step ∷ back.rest) position back.whole (omega (arith, early, here))))
      (lays back.before back.legal back.stands (others_before history q placed back others (omega (arith, behind, early))) position x)

  own_last : since ≤ length calls → (position : ℕ) → call.position ≡ Some position → IsOwnStep Behind position
  own_last room position placed = record { place = length calls; own = inr room; call = call; there = get_seam calls [] call; placed = placed }

  -- the record that is sent now
  by_new : KnowsAll Before t → (history : List Step) → IsLegal history → Stands (calls ++ call ∷ []) history → OthersLeave Behind history t.at t.id → (position : ℕ) → call.position ≡ Some position → HasAllChunks (state_of (take position history)) t
  by_new k history legal stands others position placed =
      let back = back_to calls call history stands position placed legal in
      let front : take position history ≡ back.before = ap (take position) back.whole ∙ take_at back.before (back.step ∷ back.rest) position back.place in
      subst (λ (h : List Step). HasAllChunks (state_of h) t) (sym front)
      (k.0, k.1, k.2.each back.before back.legal back.stands (others_before history position placed back others (others.later position (own_last k.2.room position placed))))

  -- Where it is that of the record, all chunks were there as it was sent.
  pub laid_pushed : LaysAll Before t → ((moment : ℤ) → fields call.command ≡ record_insert t moment → KnowsAll Before t) → LaysAll Behind t
  laid_pushed lays stood history legal stands others position x = elim (get_push calls call x.own.place x.own.call x.own.there) [
    | inl old ↦
        by_old lays history legal stands others position
        (record { own = record { place = x.own.place; own = x.own.own; call = x.own.call; there = old; placed = x.own.placed }; moment = x.moment; inserts = x.inserts })
        (get_within calls x.own.place x.own.call old) call.position refl
    | inr new ↦
        by_new (stood x.moment (ap (λ (c : Call). fields c.command) new.1 ∙ x.inserts)) history legal stands others position (ap (λ (c : Call). c.position) new.1 ∙ x.own.placed)
  ]

-- ---- other commands were sent

-- where no insert of the record was added, none was sent
pub none_added : (t : PutTask) (places : List ℕ) (since : ℕ) (calls calls' : List Call) (wire : ℤ) → AddsOnly (IsNoRecord t) calls calls' → SendsNoRecord (past_of places since calls wire) t → SendsNoRecord (past_of places since calls' wire) t
none_added t places since calls calls' wire adds none place call own there moment is = elim (cases_lt place (length calls)) [
  | inl old ↦
      let c = get_some calls place old in
      let k = adds.keeps place c.0 c.1 in
      let same : call ≡ k.0 = same_some call k.0 (sym there ∙ k.1) in
      none place c.0 own c.1 moment (ap fields (sym k.2 ∙ ap (λ (x : Call). x.command) (sym same)) ∙ is)
  | inr new ↦ adds.added place call new there moment is
]
