use Rattle.std.proofs.Common.{◌≡◌, inl, inr}
use Rattle.xp_analyse.specs.Statements.{scene_of}
use Rattle.xp_analyse.proofs.Analysing.{describes, selects, stores, unites, values}
use Rattle.xp_analyse.proofs.statement.analyse.Goals as goal

pub returns-in-Select-clause-value : goal.returns-in-Select-clause-value
returns-in-Select-clause-value c =
    let seen : c.new-scene.result ≡ scene_of c.args.c.now c.args.k.now c.args.h.now c.args.s.now = rw (c.place_of.ensures, c.columns_seen.ensures) at c.new-scene.ensures in
    elim c.in-Select.is [
      | inl at ↦ selects c.args.c.now c.args.k.now c.args.h.now c.args.s.now at.0 at.1 c.new-scene.result c.analyse_lists.result at.2 seen c.analyse_lists.ensures.value
      | inr others ↦
          elim others [
            | inl at ↦ unites c.args.c.now c.args.k.now c.args.h.now c.args.s.now at.0 at.1 c.new-scene.result c.analyse_lists.result at.2 seen c.analyse_lists.ensures.value
            | inr rest ↦
                elim rest [
                  | inl at ↦ values c.args.c.now c.args.k.now c.args.h.now c.args.s.now at.0 at.1 c.new-scene.result c.analyse_lists.result at.2 seen c.analyse_lists.ensures.value
                  | inr at ↦ describes c.args.c.now c.args.k.now c.args.h.now c.args.s.now at.0 at.1 c.new-scene.result c.analyse_lists.result at.2 seen c.analyse_lists.ensures.value
                ]
          ]
    ]

pub returns-in-Store-clause-value : goal.returns-in-Store-clause-value
returns-in-Store-clause-value c =
    stores c.args.c.now c.args.k.now c.args.h.now c.args.s.now c.in-Store.at c.in-Store.target c.in-Store.source c.new-scene.result c.store.result c.in-Store.is (rw (c.place_of.ensures, c.columns_seen.ensures) at c.new-scene.ensures) c.store.ensures.value
