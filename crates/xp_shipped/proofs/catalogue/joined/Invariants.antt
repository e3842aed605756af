use Rattle.std.proofs.Common.{◌≡◌, ◌++◌, drop, map}
use Rattle.std.specs.List.{concat}
use Rattle.xp_shipped.proofs.catalogue.joined.Given as goal

-- the text so far, with the pieces that are left behind it, is all of them
abbrev pub invariant-loop-piece : goal.invariant-loop-piece
invariant-loop-piece l = l.text ++ concat (map (λ piece. piece.now) (drop l.piece-index l.pieces)) ≡ concat (map (λ piece. piece.now) l.pieces)
