use Rattle.std.proofs.Common.{refl}
use Rattle.csv.proofs.OnLiterals.{csv_on_literals}
use Rattle.xp_catalog.specs.Rules.{leaf_in}
use Rattle.xp_bodies.specs.Table.{arithmetic, arrays, bodies, comparisons, dates, edits, integers, numerics, ranges, texts}
use Rattle.xp_loader.specs.Records.{records_of}
use Rattle.xp_loader.proofs.worked.worked_texts.Goals as goal

pub returns-clause-one : goal.returns-clause-one
unfolding csv_on_literals records_of
returns-clause-one c = refl

pub returns-clause-kind : goal.returns-clause-kind
unfolding csv_on_literals records_of
returns-clause-kind c = refl

pub returns-clause-name : goal.returns-clause-name
unfolding csv_on_literals records_of
returns-clause-name c = refl

pub returns-clause-unknown : goal.returns-clause-unknown
unfolding csv_on_literals records_of
returns-clause-unknown c = refl

pub returns-clause-duplicate : goal.returns-clause-duplicate
unfolding csv_on_literals records_of
returns-clause-duplicate c = refl

pub returns-clause-arguments : goal.returns-clause-arguments
unfolding csv_on_literals records_of leaf_in
returns-clause-arguments c = refl

pub returns-clause-body : goal.returns-clause-body
unfolding csv_on_literals records_of bodies arithmetic comparisons integers numerics texts edits dates arrays ranges
returns-clause-body c = refl
