use Rattle.std.proofs.Common.{◌≡◌, ℕ, ◌+◌, ◌<◌, List, ◌∷◌, ◌++◌, length, get_or, take, drop, refl, ◌∙◌, append_assoc, add-one, arith, drop-cons}
use Rattle.std.proofs.Math.ListN.{set, length-set}
use Rattle.std.proofs.lemmas.List.{take_more_set}
use Rattle.xp_overload.specs.Categories.{column, no_slot}
use Rattle.xp_overload.specs.inner.Demands.{demand_at, demands_from}
use Rattle.xp_overload.specs.Places.{kept, slots_at}
use Rattle.xp_overload.specs.declared.slots.InSlot.{InSlot}
use Rattle.xp_overload.specs.declared.demands.Demand.{Demand}
use Rattle.xp_overload.proofs.demands.demands.Goals as goal

-- the demand at a position is the next of the list
demands-more : (candidates : List (List InSlot)) (places : List ℕ) (inputs : List InSlot) (position : ℕ) (demands : List Demand) (other : InSlot) (next : Demand) → position < length inputs → position < length demands → next ≡ demand_at (get_or inputs position other) (column (slots_at candidates) position places) → take (position + 1) (set demands position next) ++ demands_from candidates places (position + 1) (drop (position + 1) inputs) ≡ take position demands ++ demands_from candidates places position (drop position inputs)
demands-more candidates places inputs position demands other next within room is =
    let rest : drop position inputs ≡ get_or inputs position other ∷ drop (position + 1) inputs = rw add-one (drop-cons inputs position other within) in
    rw (take_more_set demands position next room, append_assoc, rest, is) refl

pub loop-position-preserved : goal.loop-position-preserved
loop-position-preserved c =
    let inv = c.loop-position.invariant in
    let room : c.loop-position.position < length c.loop-position.demands = omega (arith, inv.room, c.requires.room) in
    record {
      room = length-set c.loop-position.demands c.loop-position.position c.demand_at.result ∙ inv.room;
      list = demands-more c.args.candidates.now (kept c.args.keep.now) c.args.inputs.now c.loop-position.position c.loop-position.demands no_slot c.demand_at.result c.loop-position-test.true room c.demand_at.ensures ∙ inv.list;
    }
