use Rattle.std.proofs.Common.{refl, lit≤}
use Rattle.xp_loader.proofs.Loaded.{IsLoaded-first}
use Rattle.xp_loader.proofs.loader.accept_all.Goals as goal

pub loop-k-init : goal.loop-k-init
loop-k-init c = rw c.in_ok-catalog.ensures (record { loaded = IsLoaded-first; few = lit≤ tt; says = refl })
