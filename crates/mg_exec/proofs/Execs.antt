-- The polls of an exec.
use Rattle.std.proofs.Common.{◌≡◌, ◌⊎◌, ◌&&◌, ◌≤◌, ℕ, ℤ, List, Bool, true, false, Option, Some, None, refl, sym, ap, ◌∙◌, subst, inl, inr, arith}
use Rattle.std.proofs.lemmas.Bool.{and_parts, cases_eq}
use Rattle.std.specs.Prelude.{IsSome, is_some}
use Rattle.mg_bson.specs.Tree.{Fields}
use Rattle.mg_bson.specs.Reading.{doc}
use Rattle.mg_link.specs.declared.action.Step.{Step}
use Rattle.mg_link.specs.declared.action.Step.TheVariants as step
use Rattle.mg_link.specs.declared.error.Error.{Error}
use Rattle.mg_link.specs.declared.error.ErrorKind.{ErrorKind}
use Rattle.mg_link.specs.declared.error.ErrorKind.TheVariants as kind
use Rattle.mg_link.specs.declared.error.Malformed.TheVariants as malformed
use Rattle.mg_link.specs.declared.reply.Verdict.{Verdict}
use Rattle.mg_link.specs.declared.reply.Verdict.TheVariants as verdict
use Rattle.mg_link.specs.Errors.{plain}
use Rattle.mg_link.specs.Failures.{refusal_by}
use Rattle.mg_link.specs.Causes.{Rose}
use Rattle.mg_link.specs.Log.{waiting, reply, fault, memory}
use Rattle.mg_link.specs.Reply.{Refusal, refusal_of, verdict_of}
use Rattle.mg_link.specs.Link.{Awaited, LogTold}
use Rattle.mg_link.specs.Acts.{IsOut, Tickets, ticket_after, Pended, FailsByFault, EndsAtOnce}
use Rattle.mg_link.specs.Exec.{Stage, unsent, first, second, Sending, Attempt, not_sent, waits, answered, ticket_at, ticket_of, Begins, GoesOn, Tries, is_retried_attempt, is_repeated, FailsAs, FailsByReply, AttemptFails, AttemptGives, holding, Once, Twice, Runs, RunsStarting, was_started}
use Rattle.mg_exec.specs.Attempts.{HasCounts, IsAtOnce, held, Stops, Repeats}
use Rattle.mg_link.proofs.Onward.{tickets_on}

-- ---- no reply is the cause of a fault

not_io : (e : Error) (k : ErrorKind) → e ≡ plain k → (k ≡ kind.Io → ⊥) → e.kind ≡ kind.Io → ⊥
not_io e k is other io = other (sym (ap (λ (x : Error). x.kind) is) ∙ io)

refusal_not_io : (k : ErrorKind) (labels : List (List ℕ)) (r : Refusal) → refusal_by k labels ≡ Some r → k ≡ kind.Io → ⊥
refusal_not_io k labels r is io = let bad : None ≡ Some r = ap (λ x. refusal_by x labels) (sym io) ∙ is in cc

fails_as_other : (v : Verdict) (said : Fields) (wire : ℤ) (e : Error) → FailsAs v said wire e → e.kind ≡ kind.Io → ⊥
fails_as_other verdict.Success said wire e f io = f
fails_as_other verdict.Refusal said wire e f io =
    elim f [
      | inl is ↦ not_io e kind.OutOfMemory is (λ bad. cc) io
      | inr told ↦ refusal_not_io e.kind e.labels (refusal_of said) told.refusal io
    ]
fails_as_other verdict.NoOk said wire e f io = not_io e (kind.InvalidResponse malformed.NoOk) f (λ bad. cc) io

fails_by_reply_other : (said : Option Fields) (wire : ℤ) (e : Error) → FailsByReply said wire e → e.kind ≡ kind.Io → ⊥
fails_by_reply_other None wire e f io = not_io e kind.BsonDeserialization f (λ bad. cc) io
fails_by_reply_other (Some said) wire e f io = fails_as_other (verdict_of said) said wire e f io

-- an attempt that failed by the link saw a fault
fault_seen : (a : Attempt) (wire : ℤ) (e : Error) (f f' p p' : ℕ) → AttemptFails a wire e → HasCounts a f f' p p' → e.kind ≡ kind.Io → Rose f f'
fault_seen not_sent wire e f f' p p' fails counts io = absurd (not_io e kind.OutOfMemory fails (λ bad. cc) io)
fault_seen (waits ticket) wire e f f' p p' fails counts io = absurd fails
fault_seen (answered waiting) wire e f f' p p' fails counts io = absurd fails
fault_seen (answered (reply bytes)) wire e f f' p p' fails counts io = absurd (fails_by_reply_other (doc bytes) wire e fails io)
fault_seen (answered fault) wire e f f' p p' fails counts io = counts.0
fault_seen (answered memory) wire e f f' p p' fails counts io = absurd (not_io e kind.OutOfMemory fails (λ bad. cc) io)

no_fault_at_once : (a : Attempt) (wire : ℤ) (e : Error) → AttemptFails a wire e → IsAtOnce a → e.kind ≡ kind.Io → ⊥
no_fault_at_once not_sent wire e fails at io = not_io e kind.OutOfMemory fails (λ bad. cc) io
no_fault_at_once (waits ticket) wire e fails at io = fails
no_fault_at_once (answered waiting) wire e fails at io = fails
no_fault_at_once (answered (reply bytes)) wire e fails at io = fails_by_reply_other (doc bytes) wire e fails io
no_fault_at_once (answered fault) wire e fails at io = at
no_fault_at_once (answered memory) wire e fails at io = not_io e kind.OutOfMemory fails (λ bad. cc) io

-- an attempt that failed left the count of pending replies as it was
failed_calm : (a : Attempt) (wire : ℤ) (e : Error) (f f' p p' : ℕ) → AttemptFails a wire e → HasCounts a f f' p p' → p' ≡ p
failed_calm not_sent wire e f f' p p' fails counts = counts
failed_calm (waits ticket) wire e f f' p p' fails counts = absurd fails
failed_calm (answered waiting) wire e f f' p p' fails counts = counts
failed_calm (answered (reply bytes)) wire e f f' p p' fails counts = counts
failed_calm (answered fault) wire e f f' p p' fails counts = counts.1
failed_calm (answered memory) wire e f f' p p' fails counts = counts

-- and so did one that is made once more
retried_calm : (a : Attempt) (f f' p p' : ℕ) → is_retried_attempt a ≡ true → HasCounts a f f' p p' → p' ≡ p
retried_calm not_sent f f' p p' is counts = counts
retried_calm (waits ticket) f f' p p' is counts = absurd cc
retried_calm (answered waiting) f f' p p' is counts = counts
retried_calm (answered (reply bytes)) f f' p p' is counts = counts
retried_calm (answered fault) f f' p p' is counts = counts.1
retried_calm (answered memory) f f' p p' is counts = counts

-- ---- what a poll answers, by its last attempt

module _ (a : Attempt) (wire : ℤ) (hold : ℕ → Sending) where
  pub gives_pended : (result : Step Sending (List ℕ)) (f f' p p' : ℕ) → ((ticket : ℕ) → IsSome (ticket_of (hold ticket))) → HasCounts a f f' p p' → AttemptGives a wire hold result → Pended ticket_of result p p'
  gives_pended (step.Pending s) f f' p p' holds counts g = (subst (λ x. IsSome (ticket_of x)) (sym g.2) (holds g.0), subst (λ x. HasCounts x f f' p p') g.1 counts)
  gives_pended (step.Done bytes) f f' p p' holds counts g = subst (λ x. HasCounts x f f' p p') g.0 counts
  gives_pended (step.Failed e) f f' p p' holds counts g = failed_calm a wire e f f' p p' g counts

  pub gives_lost : (result : Step Sending (List ℕ)) (f f' p p' : ℕ) → HasCounts a f f' p p' → AttemptGives a wire hold result → FailsByFault result f f'
  gives_lost (step.Pending s) f f' p p' counts g = tt
  gives_lost (step.Done bytes) f f' p p' counts g = tt
  gives_lost (step.Failed e) f f' p p' counts g = λ io. fault_seen a wire e f f' p p' g counts io

  pub gives_at_once : (result : Step Sending (List ℕ)) → IsAtOnce a → AttemptGives a wire hold result → EndsAtOnce result
  gives_at_once (step.Pending s) at g = subst IsAtOnce g.1 at
  gives_at_once (step.Done bytes) at g = tt
  gives_at_once (step.Failed e) at g = λ io. no_fault_at_once a wire e g at io

-- ---- tickets

-- the ticket that an attempt holds
abbrev ticket_in : Attempt → Option ℕ
ticket_in not_sent = None
ticket_in (waits ticket) = Some ticket
ticket_in (answered seen) = None

fails_without : (a : Attempt) (wire : ℤ) (e : Error) → AttemptFails a wire e → None ≡ ticket_in a
fails_without not_sent wire e f = refl
fails_without (waits ticket) wire e f = absurd f
fails_without (answered seen) wire e f = refl

ticket_given : (a : Attempt) (wire : ℤ) (hold : ℕ → Sending) → ((n : ℕ) → ticket_of (hold n) ≡ Some n) → (result : Step Sending (List ℕ)) → AttemptGives a wire hold result → ticket_after ticket_of result ≡ ticket_in a
ticket_given a wire hold holds (step.Pending s) g = ap ticket_of g.2 ∙ holds g.0 ∙ ap ticket_in (sym g.1)
ticket_given a wire hold holds (step.Done bytes) g = ap ticket_in (sym g.0)
ticket_given a wire hold holds (step.Failed e) g = fails_without a wire e g

none_out : (old new : Awaited) → ((m : ℕ) → new m ≡ old m) → Tickets old new None None
none_out old new same = record { held = λ n e. cc; rest = λ m ne is. same m; origin = λ m e. cc; only = λ m is. inr (subst (λ o. IsSome o) (same m) is, λ e. cc) }

out_is : (old : Awaited) (n : ℕ) → old n ≡ None → (m : ℕ) → m ≡ n → IsSome (old m) → ⊥
out_is old n none m is out = let bad : false ≡ true = ap (λ o. is_some o) (sym none) ∙ ap (λ k. is_some (old k)) (sym is) ∙ out in cc

begins_tickets : (old new : Awaited) (log log' : LogTold) (command : List ℕ) (a : Attempt) → Begins old new log log' command a → Tickets old new None (ticket_in a)
begins_tickets old new log log' command not_sent b = none_out old new b.rest
begins_tickets old new log log' command (waits ticket) b =
    record {
      held = λ n e. let is : ticket ≡ n = cc in subst (λ k. IsSome (new k)) is b.out;
      rest = λ m ne out. b.rest m (λ is. out_is old ticket b.fresh m is out);
      origin = λ m e. let is : ticket ≡ m = cc in inr (ap old (sym is) ∙ b.fresh);
      only = λ m is. elim (cases_eq m ticket) [ inl e ↦ inl (ap Some (sym e)) | inr ne ↦ inr (subst (λ o. IsSome o) (b.rest m ne) is, λ e. cc) ];
    }
begins_tickets old new log log' command (answered seen) b = none_out old new b.rest

goes_on_tickets : (old new : Awaited) (log log' : LogTold) (number : ℕ) (a : Attempt) → IsSome (old number) → GoesOn old new log log' number a → Tickets old new (Some number) (ticket_in a)
goes_on_tickets old new log log' number not_sent out g = absurd g
goes_on_tickets old new log log' number (waits given) out g =
    record {
      held = λ n e. let is : given ≡ n = cc in subst (λ o. IsSome o) (sym (g.rest n) ∙ refl) (subst (λ k. IsSome (old k)) (sym g.same ∙ is) out);
      rest = λ m ne is. g.rest m;
      origin = λ m e. inl (ap Some (sym g.same) ∙ e);
      only = λ m is. elim (cases_eq m given) [
        | inl e ↦ inl (ap Some (sym e))
        | inr ne ↦ inr (subst (λ o. IsSome o) (g.rest m) is, λ e. let it : number ≡ m = cc in ne (sym (g.same ∙ it)))
      ];
    }
goes_on_tickets old new log log' number (answered seen) out g =
    record {
      held = λ n e. cc;
      rest = λ m ne is. g.rest m (λ e. ne (ap Some (sym e)));
      origin = λ m e. cc;
      only = λ m is. elim (cases_eq m number) [
        | inl e ↦ absurd (out_is new number g.gone m e is)
        | inr ne ↦ inr (subst (λ o. IsSome o) (g.rest m ne) is, λ e. let it : number ≡ m = cc in ne (sym it))
      ];
    }

tries_tickets : (old new : Awaited) (log log' : LogTold) (command : List ℕ) (stage : Stage) (a : Attempt) → IsOut old (ticket_at stage) → Tries old new log log' command stage a → Tickets old new (ticket_at stage) (ticket_in a)
tries_tickets old new log log' command unsent a out t = begins_tickets old new log log' command a t
tries_tickets old new log log' command (first n) a out t = goes_on_tickets old new log log' n a (out n refl) t
tries_tickets old new log log' command (second n) a out t = goes_on_tickets old new log log' n a (out n refl) t

-- an attempt that is repeated holds no ticket
repeated_without : (retries : Bool) (stage : Stage) (a : Attempt) → is_repeated retries stage a ≡ true → ticket_in a ≡ None
repeated_without retries (second n) a h = cc
repeated_without true unsent not_sent h = cc
repeated_without true unsent (waits n) h = cc
repeated_without true unsent (answered seen) h = refl
repeated_without false unsent a h = cc
repeated_without true (first n) not_sent h = cc
repeated_without true (first n) (waits m) h = cc
repeated_without true (first n) (answered seen) h = refl
repeated_without false (first n) a h = cc

holding_ticket : (stage : Stage) (n : ℕ) → ticket_at (holding stage n) ≡ Some n
holding_ticket unsent n = refl
holding_ticket (first old) n = refl
holding_ticket (second old) n = refl

module _ (old new : Awaited) (log log' : LogTold) (wire : ℤ) (s : Sending) (result : Step Sending (List ℕ)) (out : IsOut old (ticket_of s)) where
  once_tickets : Once old new log log' wire s result → Tickets old new (ticket_of s) (ticket_after ticket_of result)
  once_tickets r =
      subst (λ t. Tickets old new (ticket_of s) t)
      (sym (ticket_given r.attempt wire (λ n. record s { stage = holding s.stage n }) (λ n. holding_ticket s.stage n) result r.gives))
      (tries_tickets old new log log' s.command s.stage r.attempt out r.tries)

  twice_tickets : Twice old new log log' wire s result → Tickets old new (ticket_of s) (ticket_after ticket_of result)
  twice_tickets r =
      let one = subst (λ t. Tickets old r.between (ticket_of s) t) (repeated_without s.retries s.stage r.attempt r.repeated) (tries_tickets old r.between log r.log_between s.command s.stage r.attempt out r.tries) in
      let two = subst (λ t. Tickets r.between new None t)
      (sym (ticket_given r.again wire (λ n. record s { stage = second n }) (λ n. refl) result r.gives))
      (begins_tickets r.between new r.log_between log' s.command r.again r.begins) in
      tickets_on one two

  pub runs_tickets : Runs old new log log' wire s result → Tickets old new (ticket_of s) (ticket_after ticket_of result)
  runs_tickets r = elim r [ inl one ↦ once_tickets one | inr two ↦ twice_tickets two ]

-- ---- a poll, and whether it started the command

pub runs_of : (old new : Awaited) (log log' : LogTold) (wire : ℤ) (s : Sending) (result : Step Sending (List ℕ)) (started : Bool) → RunsStarting old new log log' wire s result started → Runs old new log log' wire s result
runs_of old new log log' wire s result started (inl once) = inl once.0
runs_of old new log log' wire s result started (inr twice) = inr twice.0

-- ---- a poll of a first attempt

again_gives : (a : Attempt) (wire wire1 : ℤ) (s : Sending) (r : Step Sending (List ℕ)) → wire1 ≡ wire → AttemptGives a wire1 (held s.command s.retries true) r → AttemptGives a wire (λ n. record s { stage = second n }) r
again_gives a wire wire1 s (step.Pending x) same g = g
again_gives a wire wire1 s (step.Done bytes) same g = g
again_gives a wire wire1 s (step.Failed e) same g = subst (λ w. AttemptFails a w e) same g

held_gives : (a : Attempt) (wire wire1 : ℤ) (s : Sending) (r : Step Sending (List ℕ)) → wire1 ≡ wire → ((n : ℕ) → holding s.stage n ≡ first n) → AttemptGives a wire1 (held s.command s.retries false) r → AttemptGives a wire (λ n. record s { stage = holding s.stage n }) r
held_gives a wire wire1 s (step.Pending x) same hold g = (g.0, g.1, g.2 ∙ ap (λ st. record s { stage = st }) (sym (hold g.0)))
held_gives a wire wire1 s (step.Done bytes) same hold g = g
held_gives a wire wire1 s (step.Failed e) same hold g = subst (λ w. AttemptFails a w e) same g

-- a poll of a second attempt
second_gives : (a : Attempt) (wire wire1 : ℤ) (s : Sending) (n : ℕ) (r : Step Sending (List ℕ)) → s.stage ≡ second n → wire1 ≡ wire → AttemptGives a wire1 (held s.command s.retries true) r → AttemptGives a wire (λ n. record s { stage = holding s.stage n }) r
second_gives a wire wire1 s n (step.Pending x) at same g = (g.0, g.1, g.2 ∙ ap (λ st. record s { stage = holding st g.0 }) (sym at))
second_gives a wire wire1 s n (step.Done bytes) at same g = g
second_gives a wire wire1 s n (step.Failed e) at same g = subst (λ w. AttemptFails a w e) same g

pub starts_second : (old new : Awaited) (log log' : LogTold) (wire wire1 : ℤ) (s : Sending) (n : ℕ) (attempt : Attempt) (result : Step Sending (List ℕ)) → s.stage ≡ second n → GoesOn old new log log' n attempt → wire1 ≡ wire → AttemptGives attempt wire1 (held s.command s.retries true) result → RunsStarting old new log log' wire s result false
starts_second old new log log' wire wire1 s n attempt result at goes_on same gives =
    inl (
      record {
        attempt = attempt;
        tries = subst (λ st. Tries old new log log' s.command st attempt) (sym at) goes_on;
        last = ap (λ st. is_repeated s.retries st attempt) at;
        gives = second_gives attempt wire wire1 s n result at same gives;
      },
      sym (ap (λ st. was_started st attempt) at),
    )

module _ (old mid new : Awaited) (log between log' : LogTold) (wire wire1 : ℤ) (s : Sending) (attempt : Attempt) (f f1 f' p p1 p' : ℕ) (prompts prompts' : Type 0) (result : Step Sending (List ℕ)) where
  abbrev pub Settles : Type 0
  Settles = Stops mid new between log' wire1 s.command s.retries attempt p1 p' result ⊎ Repeats mid new between log' wire1 s.command s.retries attempt f1 f' p1 p' prompts' result

  pub starts_first : Tries old mid log between s.command s.stage attempt → is_repeated s.retries s.stage attempt ≡ (s.retries && is_retried_attempt attempt) → ((n : ℕ) → holding s.stage n ≡ first n) → wire1 ≡ wire → Settles → (started : Bool) → started ≡ was_started s.stage attempt → RunsStarting old new log log' wire s result started
  starts_first t repeats_as hold same settles started is =
      elim settles [
        | inl stops ↦ inl (
          record {
            attempt = attempt;
            tries = subst (λ a. Tries old a log log' s.command s.stage attempt) (sym stops.awaited_same) (subst (λ l. Tries old mid log l s.command s.stage attempt) (sym stops.log_same) t);
            last = repeats_as ∙ stops.last;
            gives = held_gives attempt wire wire1 s result same hold stops.gives;
          },
          is,
        )
        | inr repeats ↦ inr (
          record {
            attempt = attempt;
            between = mid;
            log_between = between;
            tries = t;
            repeated = repeats_as ∙ repeats.repeated;
            again = repeats.again;
            begins = repeats.begins;
            gives = again_gives repeats.again wire wire1 s result same repeats.gives;
          },
          is,
        )
      ]

  pub first_pended : HasCounts attempt f f1 p p1 → Settles → Pended ticket_of result p p'
  first_pended counts settles =
      elim settles [
        | inl stops ↦ subst (Pended ticket_of result p) (sym stops.pended_same) (gives_pended attempt wire1 (held s.command s.retries false) result f f1 p p1 (λ ticket. refl) counts stops.gives)
        | inr repeats ↦
            let retried = (and_parts s.retries (is_retried_attempt attempt) repeats.repeated).1 in
            subst (λ q. Pended ticket_of result q p') (retried_calm attempt f f1 p p1 retried counts) (gives_pended repeats.again wire1 (held s.command s.retries true) result f1 f' p1 p' (λ ticket. refl) repeats.counts repeats.gives)
      ]

  pub first_lost : HasCounts attempt f f1 p p1 → f ≤ f1 → f1 ≤ f' → Settles → FailsByFault result f f'
  first_lost counts le le' settles =
      elim settles [
        | inl stops ↦ raised result f1 (gives_lost attempt wire1 (held s.command s.retries false) result f f1 p p1 counts stops.gives) le'
        | inr repeats ↦ lowered result (gives_lost repeats.again wire1 (held s.command s.retries true) result f1 f' p1 p' repeats.counts repeats.gives)
      ]
    where
      raised : (r : Step Sending (List ℕ)) (q : ℕ) → FailsByFault r f q → q ≤ f' → FailsByFault r f f'
      raised (step.Pending x) q h lt = tt
      raised (step.Done bytes) q h lt = tt
      raised (step.Failed e) q h lt = λ io. let r = h io in omega arith

      lowered : (r : Step Sending (List ℕ)) → FailsByFault r f1 f' → FailsByFault r f f'
      lowered (step.Pending x) h = tt
      lowered (step.Done bytes) h = tt
      lowered (step.Failed e) h = λ io. let r = h io in omega arith

  pub first_at_once : (prompts → IsAtOnce attempt) → (prompts → prompts') → Settles → prompts → EndsAtOnce result
  first_at_once at stays settles is =
      elim settles [
        | inl stops ↦ gives_at_once attempt wire1 (held s.command s.retries false) result (at is) stops.gives
        | inr repeats ↦ gives_at_once repeats.again wire1 (held s.command s.retries true) result (repeats.at_once (stays is)) repeats.gives
      ]
