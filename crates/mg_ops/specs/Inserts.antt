-- An insert that goes on while replies pend.
use Rattle.std.specs.Prelude.{◌≡◌, ◌<◌, ◌+◌, ◌-◌, ◌*◌, ℕ, ℤ, List, length, Option, Some, None}
use Rattle.mg_server.specs.Commands.{asked}
use Rattle.mg_server.specs.Standing.{Names}
use Rattle.mg_link.specs.declared.action.Step.{Step}
use Rattle.mg_link.specs.declared.action.Step.TheVariants as step
use Rattle.mg_link.specs.Acts.{PendsAfter}
use Rattle.mg_link.specs.Causes.{Rose}
use Rattle.mg_link.specs.Exec.{ticket_of}
use Rattle.mg_link.specs.declared.error.ErrorKind.TheVariants as kind
use Rattle.mg_ops.specs.declared.inserting.Command.{Command}
use Rattle.mg_ops.specs.declared.inserting.Heard.{Heard}
use Rattle.mg_ops.specs.declared.inserting.Heard.TheVariants as heard
use Rattle.mg_ops.specs.declared.inserting.Inserting.{Inserting}
use Rattle.mg_ops.specs.declared.inserting.Next.{Next}
use Rattle.mg_ops.specs.declared.inserting.Next.TheVariants as next

abbrev pub held : Option Command → Option ℕ
held None = None
held (Some c) = ticket_of c.exec

-- the ticket that it holds
abbrev pub insert_ticket : Inserting → Option ℕ
insert_ticket i = held i.command

abbrev pub heard_ticket : Heard → Option ℕ
heard_ticket (heard.Pending c) = ticket_of c.exec
heard_ticket heard.Inserted = None
heard_ticket (heard.Failed e) = None

-- it pends after one poll that pended, or the count of pending replies is the same
abbrev pub HeardPends : Heard → ℕ → ℕ → Type 0
HeardPends (heard.Pending c) before now = PendsAfter 1 (ticket_of c.exec) before now
HeardPends heard.Inserted before now = now ≡ before
HeardPends (heard.Failed e) before now = now ≡ before

abbrev pub HeardLost : Heard → ℕ → ℕ → Type 0
HeardLost (heard.Pending c) before now = Unit {0}
HeardLost heard.Inserted before now = Unit {0}
HeardLost (heard.Failed e) before now = e.kind ≡ kind.Io → Rose before now

abbrev pub HeardAtOnce : Heard → Type 0
HeardAtOnce (heard.Pending c) = ⊥
HeardAtOnce heard.Inserted = Unit {0}
HeardAtOnce (heard.Failed e) = e.kind ≡ kind.Io → ⊥

-- the command names no cursor
abbrev pub IsPlain : List ℕ → Type 0
IsPlain command = (x : ℤ) → Names (asked command) x → ⊥

abbrev pub HeldPlain : Option Command → Type 0
HeldPlain None = Unit {0}
HeldPlain (Some c) = IsPlain c.exec.command

-- what is in flight names no cursor
abbrev pub SendsPlain : Inserting → Type 0
SendsPlain i = HeldPlain i.command

abbrev pub HeardPlain : Heard → Type 0
HeardPlain (heard.Pending c) = IsPlain c.exec.command
HeardPlain heard.Inserted = Unit {0}
HeardPlain (heard.Failed e) = Unit {0}

abbrev pub StepPlain : {T : Type 0} → Step Inserting T → Type 0
StepPlain (step.Pending i) = SendsPlain i
StepPlain (step.Done t) = Unit {0}
StepPlain (step.Failed e) = Unit {0}

-- a command that waits is one step more
abbrev pub one_if_held : Option Command → ℕ
one_if_held None = 0
one_if_held (Some c) = 1

-- how many steps are left at most, where so many documents of the list stand in commands
abbrev pub left_of : {A : Type 0} → List A → ℕ → Option Command → ℕ
left_of documents upto waiting = (length documents - upto) * 2 + one_if_held waiting

-- ---- what is to be sent next

-- the ticket that was held is that of the command
abbrev pub NextTicket : Option Command → Next → Type 0
NextTicket waiting (next.Send c) = ticket_of c.exec ≡ held waiting
NextTicket waiting next.Finished = held waiting ≡ None
NextTicket waiting (next.Stopped e) = held waiting ≡ None

abbrev pub NextPlain : Next → Type 0
NextPlain (next.Send c) = IsPlain c.exec.command
NextPlain next.Finished = Unit {0}
NextPlain (next.Stopped e) = Unit {0}

-- fewer steps are left behind a command
abbrev pub NextFewer : ℕ → ℕ → Next → Type 0
NextFewer before now (next.Send c) = now < before
NextFewer before now next.Finished = Unit {0}
NextFewer before now (next.Stopped e) = Unit {0}

abbrev pub NextNotIo : Next → Type 0
NextNotIo (next.Send c) = Unit {0}
NextNotIo next.Finished = Unit {0}
NextNotIo (next.Stopped e) = e.kind ≡ kind.Io → ⊥
