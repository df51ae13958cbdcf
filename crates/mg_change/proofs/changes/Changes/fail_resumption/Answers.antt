use Rattle.mg_change.proofs.changes.Changes.fail_resumption.Goals as goal

pub returns-clause-phase : goal.returns-clause-phase
returns-clause-phase c = c.lead.ensures.leads.leads.0

pub returns-clause-fails : goal.returns-clause-fails
returns-clause-fails c = c.lead.ensures.leads.leads.1

pub returns-clause-place : goal.returns-clause-place
returns-clause-place c = c.lead.ensures.place
