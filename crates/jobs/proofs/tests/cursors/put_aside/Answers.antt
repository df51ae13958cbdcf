use Rattle.jobs.proofs.tests.cursors.put_aside.Goals as goal

pub aside-requires : goal.aside-requires
aside-requires g c = c.may_go_aside.ensures.names c.if-not-may_go_aside.false
