-- Which token a new change stream holds (drivers' specification of change streams, "postBatchResumeToken").
use Rattle.std.specs.Prelude.{Bool, true, false, Option, Some, None}
use Rattle.mg_bson.specs.RawView.{value}
use Rattle.mg_bson.specs.Tree.{Tree}
use Rattle.mg_bson.specs.View.{tree}
use Rattle.mg_options.specs.declared.token.Lent.{Lent}
use Rattle.mg_options.specs.declared.token.Lent.TheVariants as lent

-- the one, or else the other
abbrev pub or_else : Option Tree → Option Tree → Option Tree
or_else (Some t) other = Some t
or_else None other = other

-- the token of the first batch, where that batch is empty
abbrev pub batch_token : Bool → Option Tree → Option Tree
batch_token true token = token
batch_token false token = None

-- the batch's token where the first batch is empty, else `startAfter`, else `resumeAfter`
abbrev pub first_token : Option Tree → Option Tree → Bool → Option Tree → Option Tree
first_token start_after resume_after is_empty token = or_else (batch_token is_empty token) (or_else start_after resume_after)

-- a token that is lent, by where it lies
abbrev pub lent_tree : Lent → Tree
lent_tree (lent.Value v) = tree v.now
lent_tree (lent.Raw alloc v) = value v
