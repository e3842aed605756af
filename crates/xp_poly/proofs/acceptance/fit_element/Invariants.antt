use Rattle.std.proofs.Common.{◌≡◌, drop}
use Rattle.std.specs.List.{list_all}
use Rattle.xp_poly.specs.Acceptance.{fits_element}
use Rattle.xp_poly.proofs.acceptance.fit_element.Given as goal

-- the inputs from here on answer as all do
abbrev pub invariant-loop-given : goal.invariant-loop-given
invariant-loop-given l = list_all (fits_element l.c l.ty l.range) (drop l.given-index l.inputs) ≡ list_all (fits_element l.c l.ty l.range) l.inputs
