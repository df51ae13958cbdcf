-- What a put's upload fails with first: where something is not built, it is what comes next.
use Rattle.std.proofs.Common.{◌≡◌, ◌≢◌, ◌<◌, ◌≤◌, ◌+◌, ◌*◌, ◌^◌, ℕ, List, [], ◌∷◌, ◌++◌, length, take, drop, None, refl, sym, ap, ◌∙◌, subst, inl, inr, arith, append-nil, append_assoc}
use Rattle.std.proofs.lemmas.List.{length-take-le, take-append-drop}
use Rattle.mg_bson.specs.Tree.{Fields}
use Rattle.mg_server.specs.Calls.{Past}
use Rattle.mg_link.specs.Chunks.{chunked}
use Rattle.mg_link.specs.Errors.{plain}
use Rattle.mg_link.specs.declared.error.Error.{Error}
use Rattle.mg_link.specs.declared.error.ErrorKind.TheVariants as kind
use Rattle.mg_server.proofs.Chunking.{length-chunked}
use Rattle.mg_ops.specs.Failing.{FailsBy}
use Rattle.mg_ops.specs.InsertCauses.{FitTogether}
use Rattle.mg_ops.specs.Limits.{max_documents}
use Rattle.mg_gridfs.specs.Commands.{CannotStore, chunk_document, chunk_documents, chunks_lines, record_document, record_lines}
use Rattle.mg_gridfs.specs.Steps as steps
use Rattle.mg_gridfs.specs.Steps.{CannotEnd, CannotFill, PassNumbers, first_chunks}
use Rattle.mg_gridfs.specs.Uploads.{Aim, ClientUpload, Ending, HasBounds, IsShort, record_of}
use Rattle.mg_players.specs.PutSends as put_sends
use Rattle.mg_players.specs.PutSends.{AreNextChunks, IsErrorBehind, NextNotBuilt, file_chunks}
use Rattle.mg_players.specs.Puts.{ComeNext, IsCutAt, IsMoment, PutTask, Supply, joined, put_aim, put_bucket, total}
use Rattle.mg_players.proofs.PutChunks.{chunk_count, full_documents, last_documents}
use Rattle.mg_players.proofs.PutSending.{its_room, joined_total}

module _ (supply : Supply) (t : PutTask) (past : Past) (taken rest : List ℕ) (whole : joined t.pieces ≡ taken ++ rest) (u : ClientUpload) (aim : u.aim ≡ put_aim t) (bounds : HasBounds u) where
  -- memory ran out, or there is a cause
  memory_behind : (Cause : Error → Type 0) (upto : ℕ) (e : Error) → (Cause e → IsErrorBehind supply t past upto None e) → FailsBy Cause e → IsErrorBehind supply t past upto None e
  memory_behind Cause upto e each (inl full) = put_sends.out_of_memory (ap (λ (x : Error). x.kind) full)
  memory_behind Cause upto e each (inr cause) = each cause

  all_bytes : rest ≡ [] → joined t.pieces ≡ taken
  all_bytes all = whole ∙ ap (λ (l : List ℕ). taken ++ l) all ∙ append-nil taken

  -- ---- chunks

  module _ (cut : IsCutAt u taken 0) (ids : ℕ → List ℕ) (next : ComeNext supply t ids u.sent) where
    size_is : u.aim.size ≡ t.chunk
    size_is = ap (λ (a : Aim). a.size) aim

    even : length cut.front ≡ u.sent * t.chunk
    even = let none : u.sent + 0 ≡ u.sent = omega arith in cut.even ∙ ap (λ (n : ℕ). n * u.aim.size) none ∙ ap (λ (m : ℕ). u.sent * m) size_is

    count_is : (count : ℕ) → count * u.aim.size ≤ length u.behind → length (first_chunks u ids count) ≡ count
    count_is count within =
        let these : List ℕ = take (count * u.aim.size) u.behind in chunk_count ids 0 u.aim.id u.sent (chunked u.aim.size these) ∙ length-chunked count u.aim.size these bounds.size.some (length-take-le (count * u.aim.size) u.behind within)

    next_full : (count : ℕ) → 0 < count → count ≤ max_documents → count * u.aim.size ≤ length u.behind → AreNextChunks supply t u.sent (first_chunks u ids count)
    next_full count some few within =
        let n : ℕ = count * u.aim.size in
        let these : List ℕ = take n u.behind in
        let left : List ℕ = drop n u.behind in
        full_documents supply t (its_room t u aim bounds) u.sent cut.front even count these (left ++ rest) some few
        (whole ∙ ap (λ (l : List ℕ). l ++ rest) (cut.parts ∙ ap (λ (l : List ℕ). cut.front ++ l) (sym (take-append-drop n u.behind)) ∙ sym (append_assoc cut.front these left)) ∙ append_assoc (cut.front ++ these) left rest)
        (length-take-le n u.behind within ∙ ap (λ (m : ℕ). count * m) size_is) ids next (first_chunks u ids count) (ap (λ (a : Aim). chunk_documents ids 0 a.id u.sent (chunked a.size these)) aim)

    -- so many of them pass the greatest number
    next_pass : (count : ℕ) → 0 < count → count ≤ max_documents → count * u.aim.size ≤ length u.behind → FitTogether (first_chunks u ids count) → 2 ^ 31 < u.sent + count → (e : Error) → e ≡ plain kind.FileTooLarge → NextNotBuilt supply t u.sent e
    next_pass count some few within together past_most e is = put_sends.too_many (first_chunks u ids count) (next_full count some few within) together (subst (λ (n : ℕ). 2 ^ 31 < u.sent + n) (sym (count_is count within)) past_most) is

    too_many_next : u.aim.size ≤ length u.behind → ((k : ℕ) → length (ids k) ≡ 12) → PassNumbers u ids → (e : Error) → e ≡ plain kind.FileTooLarge → NextNotBuilt supply t u.sent e
    too_many_next full twelve (steps.of_first past_most) e is =
        let one : 1 * u.aim.size ≡ u.aim.size = omega arith in
        let within : 1 * u.aim.size ≤ length u.behind = omega (arith, full, one) in
        next_pass 1 (omega arith) (omega arith) within (inr (count_is 1 within)) past_most e is
    too_many_next full twelve (steps.of_last count past_most portion) e is = (let p = portion (λ k less. twelve k) in next_pass count p.some p.few p.within p.together past_most e is)

    fill_error : u.aim.size ≤ length u.behind → ((k : ℕ) → length (ids k) ≡ 12) → (e : Error) → CannotFill u ids e → IsErrorBehind supply t past u.sent None e
    fill_error full twelve e (steps.too_many count some few within most why is) = put_sends.not_built refl (too_many_next full twelve why e is)
    fill_error full twelve e (steps.too_large count portion small cannot) =
        let documents : List Fields = first_chunks u ids count in
        put_sends.not_built refl (put_sends.next_chunks documents (next_full count portion.some portion.few portion.within) portion.together (subst (λ (a : Aim). CannotStore (chunks_lines a.bucket documents) documents e) aim cannot))
    fill_error full twelve e (steps.not_encoded d is cannot) =
        let one : 1 * u.aim.size ≡ u.aim.size = omega arith in
        put_sends.not_built refl (put_sends.next_chunk d (subst (AreNextChunks supply t u.sent) is (next_full 1 (omega arith) (omega arith) (omega (arith, full, one)))) cannot)

    -- the next full chunks
    pub fills_error : u.aim.size ≤ length u.behind → ((k : ℕ) → length (ids k) ≡ 12) → (e : Error) → FailsBy (CannotFill u ids) e → IsErrorBehind supply t past u.sent None e
    fills_error full twelve e failed = memory_behind (CannotFill u ids) u.sent e (fill_error full twelve e) failed

    module _ (all : rest ≡ []) (short : IsShort u) (some : u.behind ≢ []) where
      next_last : (documents : List Fields) → documents ≡ chunk_document (ids 0) u.aim.id u.sent u.behind ∷ [] → AreNextChunks supply t u.sent documents
      next_last documents this =
          last_documents supply t (its_room t u aim bounds) u.sent cut.front even u.behind (all_bytes all ∙ cut.parts) some (subst (λ (m : ℕ). length u.behind < m) size_is short) ids next documents (this ∙ ap (λ (a : Aim). chunk_documents ids 0 a.id u.sent (u.behind ∷ [])) aim)

      last_error : (documents : List Fields) → documents ≡ chunk_document (ids 0) u.aim.id u.sent u.behind ∷ [] → (e : Error) → CannotEnd u documents e → IsErrorBehind supply t past u.sent None e
      last_error documents this e (steps.too_many most is) = (let one : length documents ≡ 1 = ap length this in put_sends.not_built refl (put_sends.too_many documents (next_last documents this) (inr one) (subst (λ (n : ℕ). 2 ^ 31 < u.sent + n) (sym one) most) is))
      last_error documents this e (steps.too_large small cannot) = put_sends.not_built refl (put_sends.next_chunks documents (next_last documents this) (inr (ap length this)) (subst (λ (a : Aim). CannotStore (chunks_lines a.bucket documents) documents e) aim cannot))

      -- what is left, as the last one
      pub rests_error : (e : Error) → FailsBy (CannotEnd u (chunk_document (ids 0) u.aim.id u.sent u.behind ∷ [])) e → IsErrorBehind supply t past u.sent None e
      rests_error e failed = memory_behind (CannotEnd u (chunk_document (ids 0) u.aim.id u.sent u.behind ∷ [])) u.sent e (last_error (chunk_document (ids 0) u.aim.id u.sent u.behind ∷ []) refl e) failed

  -- ---- the record

  pub ends_error : (ending : Ending) → rest ≡ [] → ending.length ≡ length taken → IsMoment supply.moment ending.moment → (e : Error) → FailsBy (CannotStore (record_lines u.aim.bucket (record_of u.aim ending)) (record_of u.aim ending ∷ [])) e → IsErrorBehind supply t past (length (file_chunks t)) None e
  ends_error ending all counts its e failed =
      let count : ending.length ≡ total t.pieces = counts ∙ ap length (sym (all_bytes all)) ∙ joined_total t.pieces in
      memory_behind (CannotStore (record_lines u.aim.bucket (record_of u.aim ending)) (record_of u.aim ending ∷ [])) (length (file_chunks t)) e
      (λ cannot.
      put_sends.not_built refl (put_sends.the_record refl ending.moment its
      (subst (λ (d : Fields). CannotStore (record_lines (put_bucket t) d) (d ∷ []) e) (ap (λ (n : ℕ). record_document t.id n t.chunk ending.moment t.name None) count)
      (subst (λ (a : Aim). CannotStore (record_lines a.bucket (record_of a ending)) (record_of a ending ∷ []) e) aim cannot)))) failed
