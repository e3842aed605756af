use Rattle.std.proofs.Common.{drop}
use Rattle.xp_analyse.proofs.Arms.{arms_sources, first_sources, others_sources}
use Rattle.xp_analyse.proofs.joined.arms_united.Goals as goal

pub united-requires-clause-sources : goal.united-requires-clause-sources
united-requires-clause-sources c = rw c.in_ok-lists.ensures.first (first_sources c.args.scene.now.c c.args.lists c.requires.sources)

pub united-requires-clause-arms : goal.united-requires-clause-arms
united-requires-clause-arms c =
    rw (c.in_ok-others.ensures, c.in_ok-lists.ensures.others) (arms_sources c.args.scene.now.c (drop 1 c.args.arms.now) (drop 1 c.args.lists) (others_sources c.args.scene.now.c c.args.lists c.requires.sources))
