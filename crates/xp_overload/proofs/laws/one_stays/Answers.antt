use Rattle.xp_overload.specs.Places.{is_marked, slots_at}
use Rattle.xp_overload.specs.Matches.{matches}
use Rattle.xp_overload.specs.declared.matches.Match.TheVariants.{Exact, Preferred}
use Rattle.xp_overload.proofs.Left.{one-as_known_type, one-of_category, one-with_most}
use Rattle.xp_overload.proofs.laws.one_stays.Goals as goal

pub returns : goal.returns
returns c = record {
  exact = one-with_most (λ place. matches Exact c.args.inputs.now (slots_at c.args.candidates.now place)) c.args.place;
  preferred = one-with_most (λ place. matches Preferred c.args.inputs.now (slots_at c.args.candidates.now place)) c.args.place;
  category = one-of_category (slots_at c.args.candidates.now) c.args.inputs.now c.args.place;
  known = one-as_known_type (is_marked c.args.as_known.now) c.args.place;
}
