use Rattle.std.proofs.Common.{◌≡◌, true}
use Rattle.xp_overload.specs.Places.{is_marked, kept, slots_at}
use Rattle.xp_overload.specs.Choosing.{left}
use Rattle.xp_overload.proofs.Left.{All-kept, All-left, filled-left, several-left}
use Rattle.xp_overload.proofs.laws.some_are_left.Goals as goal

pub returns : goal.returns
returns c =
    let places = kept c.args.keep.now in
    let filled = filled-left (slots_at c.args.candidates.now) (is_marked c.args.as_known.now) c.args.inputs.now places c.requires in
    record {
      kept = All-left (λ place. is_marked c.args.keep.now place ≡ true) (slots_at c.args.candidates.now) (is_marked c.args.as_known.now) c.args.inputs.now places (All-kept c.args.keep.now);
      one = filled;
      several = several-left (left (slots_at c.args.candidates.now) (is_marked c.args.as_known.now) c.args.inputs.now places) filled;
    }
