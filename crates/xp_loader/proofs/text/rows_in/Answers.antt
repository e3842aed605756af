use Rattle.std.proofs.Common.{◌^◌, ◌<◌, length, map, sym, arith}
use Rattle.std.proofs.lemmas.List.{length-map}
use Rattle.csv.specs.Reading.{default_config, strip_bom}
use Rattle.csv.specs.Records.{fields_of}
use Rattle.csv.specs.declared.parser.State.TheVariants as st
use Rattle.xp_loader.specs.Records.{records_of}
use Rattle.xp_loader.proofs.OneReading.{records_from-are}
use Rattle.xp_loader.proofs.text.rows_in.Goals as goal

pub returns-in-Ok : goal.returns-in-Ok
unfolding records_of
returns-in-Ok c =
    let few : length (map fields_of c.in-Ok.rows.items) < 2 ^ 64 = omega (arith, length-map c.in-Ok.rows.items fields_of, c.in-Ok.rows.ok, c.in-Ok.rows.small) in
    sym (records_from-are default_config (2 ^ 64) st.StartRecord (strip_bom c.args.text.now) (map fields_of c.in-Ok.rows.items) few c.in-Ok.ensures)
