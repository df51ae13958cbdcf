-- A request that is polled once and then on, and what an operation reads of it.
use Rattle.std.proofs.Common.{◌≡◌, ◌≤◌, ◌+◌, ℕ, List, Option, None, refl, sym, ap, subst, arith}
use Rattle.mg_bson.specs.Tree.{Fields}
use Rattle.mg_link.specs.Acts.{FailsByFault, PendsBy, Tickets, ticket_after}
use Rattle.mg_link.specs.Causes.{Rose, RoseJust}
use Rattle.mg_link.specs.Exec.{Sending, ticket_of}
use Rattle.mg_link.specs.Link.{Awaited}
use Rattle.mg_link.specs.declared.action.Step.{Step}
use Rattle.mg_link.specs.declared.action.Step.TheVariants as step
use Rattle.mg_link.specs.declared.error.Error.{Error}
use Rattle.mg_link.proofs.Onward.{rose_on}
use Rattle.mg_actions.specs.Running.{ReadsReply}

pub pends_behind : {S T : Type 0} (ticket : S → Option ℕ) (k n : ℕ) (r : Step S T) (before mid now : ℕ) → n ≡ k + 1 → RoseJust 1 before mid → PendsBy k ticket r mid now → PendsBy n ticket r before now
pends_behind ticket k n (step.Pending s) before mid now count first p = let all : 1 + k ≡ n = omega (arith, count) in (p.0, subst (λ (m : ℕ). RoseJust m before now) all (rose_on 1 k before mid now first p.1))
pends_behind ticket k n (step.Done t) before mid now count first p = let most = first.1 in omega (arith, count, most, p)
pends_behind ticket k n (step.Failed e) before mid now count first p = let most = first.1 in omega (arith, count, most, p)

rose_before : (before mid now : ℕ) → before ≤ mid → Rose mid now → Rose before now
rose_before before mid now le rose = omega (arith, le, rose)

pub lost_behind : {S T : Type 0} (r : Step S T) (before mid now : ℕ) → before ≤ mid → FailsByFault r mid now → FailsByFault r before now
lost_behind (step.Pending s) before mid now le h = tt
lost_behind (step.Done t) before mid now le h = tt
lost_behind (step.Failed e) before mid now le h = λ io. rose_before before mid now le (h io)

-- ---- what is read of it

module _ {T : Type 0} (gives : List ℕ → T → Type 0) (fails : Fields → Error → Type 0) where
  pub read_ticket : (came : Step Sending (List ℕ)) (r : Step Sending T) → ReadsReply gives fails came r → ticket_after ticket_of r ≡ ticket_after ticket_of came
  read_ticket (step.Pending s) r h = ap (λ (x : Step Sending T). ticket_after ticket_of x) h
  read_ticket (step.Done reply) (step.Pending s) h = absurd h
  read_ticket (step.Done reply) (step.Done output) h = refl
  read_ticket (step.Done reply) (step.Failed e) h = refl
  read_ticket (step.Failed e) r h = ap (λ (x : Step Sending T). ticket_after ticket_of x) h

  pub read_pends : (n : ℕ) (came : Step Sending (List ℕ)) (r : Step Sending T) (before now : ℕ) → ReadsReply gives fails came r → PendsBy n ticket_of came before now → PendsBy n ticket_of r before now
  read_pends n (step.Pending s) r before now h p = subst (λ (x : Step Sending T). PendsBy n ticket_of x before now) (sym h) p
  read_pends n (step.Done reply) (step.Pending s) before now h p = absurd h
  read_pends n (step.Done reply) (step.Done output) before now h p = p
  read_pends n (step.Done reply) (step.Failed e) before now h p = p
  read_pends n (step.Failed e) r before now h p = subst (λ (x : Step Sending T). PendsBy n ticket_of x before now) (sym h) p

  pub read_tickets : (old new : Awaited) (came : Step Sending (List ℕ)) (r : Step Sending T) → ReadsReply gives fails came r → Tickets old new None (ticket_after ticket_of came) → Tickets old new None (ticket_after ticket_of r)
  read_tickets old new came r h t = subst (λ (x : Option ℕ). Tickets old new None x) (sym (read_ticket came r h)) t
