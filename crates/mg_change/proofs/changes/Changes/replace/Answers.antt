use Rattle.std.proofs.Common.{false, sym, ap, ◌∙◌, subst}
use Rattle.mg_cursor.specs.Client.{IsSound}
use Rattle.mg_cursor.specs.Closing.{closed}
use Rattle.mg_cursor.specs.View.{client_of}
use Rattle.mg_cursor.specs.declared.batches.Batches.{Batches}
use Rattle.mg_change.specs.declared.changes.Changes.{Changes}
use Rattle.mg_change.proofs.Parts.{not_asking_sound, replaced_so}
use Rattle.mg_change.proofs.changes.Changes.replace.Goals as goal

pub close-requires : goal.close-requires
close-requires c = subst (λ (b : Batches). IsSound false (client_of b)) (sym c.replace-old.ensures.value) (not_asking_sound (client_of c.args.self.now.batches) c.requires.quiet)

pub returns-clause-replaces : goal.returns-clause-replaces
returns-clause-replaces c =
    replaced_so c.args.self.now c.enter.new.self c.replace-old.new.dest c.args.opened c.close.result c.requires.saved c.requires.none_left (ap client_of c.replace-old.ensures.after ∙ c.new-batches.ensures)
    (c.close.ensures ∙ ap (λ (b : Batches). closed (client_of b)) c.replace-old.ensures.value) c.enter.ensures

pub returns-clause-place : goal.returns-clause-place
returns-clause-place c = ap (λ (s : Changes). s.token) c.enter.ensures
