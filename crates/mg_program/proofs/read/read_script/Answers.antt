use Rattle.std.proofs.Common.{◌≡◌, map, string_bytes, true, Ok, sym, ap, ◌∙◌, arith}
use Rattle.mg_script.specs.Plan.{plan}
use Rattle.mg_script.specs.Script.{script_of}
use Rattle.mg_program.specs.Refusals.{is_run}
use Rattle.mg_program.proofs.read.read_script.Goals as goal

pub returns-in-Some-clause-refused : goal.returns-in-Some-clause-refused
returns-in-Some-clause-refused g c =
    let asked : is_run (map string_bytes c.args.words.now) ≡ true = grind arith in
    let read : script_of c.in-Ok.bytes.items ≡ Ok (plan c.in-Ok-parse_script.script) = ap script_of (sym c.as_slice.ensures.value) ∙ c.in-Ok-parse_script.ensures in
    (asked, (plan c.in-Ok-parse_script.script, (c.in-Ok.bytes.items, (c.in-Ok.ensures.whole, c.in-Ok.ensures.short), read), sym c.in-Some.ensures))
