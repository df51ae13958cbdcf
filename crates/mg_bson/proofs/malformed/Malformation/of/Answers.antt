use Rattle.std.proofs.Common.{sym, refl}
use Rattle.mg_bson.proofs.Malforming.{no_frame, found_in, refused_in}
use Rattle.mg_bson.proofs.malformed.Malformation.of.Goals as goal

pub returns-in-None-clause-found : goal.returns-in-None-clause-found
returns-in-None-clause-found c = (sym c.in-None.ensures, refl)

pub returns-in-None-clause-refused : goal.returns-in-None-clause-refused
returns-in-None-clause-refused c = no_frame c.args.bytes.now (sym c.in-None.ensures)

pub returns-in-Some-clause-found : goal.returns-in-Some-clause-found
returns-in-Some-clause-found c = found_in c.args.bytes.now c.in-Some.body.now c.first_fault.result (sym c.in-Some.ensures) c.first_fault.ensures

pub returns-in-Some-clause-refused : goal.returns-in-Some-clause-refused
returns-in-Some-clause-refused c = refused_in c.args.bytes.now c.in-Some.body.now c.first_fault.result (sym c.in-Some.ensures) c.first_fault.ensures
