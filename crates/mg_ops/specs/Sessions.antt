-- What a command says of its session (drivers' specifications of sessions, "Sending the session ID to the server on all commands", and of transactions, "Constructing any other command within a transaction").
use Rattle.std.specs.Prelude.{◌++◌, false, List, Option, Some, None, if◌then◌else◌}
use Rattle.mg_bson.specs.Tree.{document, int64, boolean, Fields}
use Rattle.mg_bson.specs.Find.{joined}
use Rattle.mg_link.specs.Session.{Session, in_transaction, starts_transaction}
use Rattle.mg_exec.specs.declared.exec.Retry.{Retry}
use Rattle.mg_exec.specs.declared.exec.Retry.TheVariants as retries
use Rattle.mg_options.specs.Fields.{Line, Shown, absent, shown, ◌⟼◌⨾◌, nothing, fields_in}
use Rattle.mg_options.specs.Printing.{flag}
use Rattle.mg_ops.specs.Pieces.{only_true}

-- the number of the transaction that a command is in
abbrev pub numbered : Session → Shown
numbered s = if in_transaction s then shown (int64 s.number) else absent

-- the first command of a transaction says so
abbrev pub start_transaction : Session → Shown
start_transaction s = flag (only_true (starts_transaction s))

-- no command of a transaction commits it by itself
abbrev pub autocommit : Session → Shown
autocommit s = if in_transaction s then shown (boolean false) else absent

-- the fields of a session
abbrev pub session_lines : Option Session → List Line
session_lines None = nothing
session_lines (Some s) =
    "lsid" ⟼ shown (document s.id)
    ⨾ "txnNumber" ⟼ numbered s
    ⨾ "startTransaction" ⟼ start_transaction s
    ⨾ "autocommit" ⟼ autocommit s
    ⨾ nothing

-- what stands behind the body of a command: its database, its session, and what it says of how it is done
abbrev pub end_of : Shown → Option Session → List Line → List Line
end_of db session concerns = "$db" ⟼ db ⨾ (session_lines session ++ concerns)

-- a command that ends with its database, and its session behind it
abbrev pub in_session : Option Session → Fields → Fields
in_session None d = d
in_session (Some s) d = joined d (fields_in (session_lines (Some s)))

-- a read is sent once more, unless it is part of a transaction (drivers' specification of retryable reads)
abbrev pub read_retry : Option Session → Retry
read_retry None = retries.Read
read_retry (Some s) = if in_transaction s then retries.None else retries.Read
