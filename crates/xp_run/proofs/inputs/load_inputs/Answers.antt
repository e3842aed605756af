use Rattle.std.proofs.Common.{◌∙◌}
use Rattle.xp_run.proofs.Texts.{table_held, text_held, texts_script, texts_table, texts_whole}
use Rattle.xp_run.proofs.inputs.load_inputs.Goals as goal

pub returns-in-Err-load_text-clause-texts : goal.returns-in-Err-load_text-clause-texts
returns-in-Err-load_text-clause-texts g c =
    texts_script (g.F.Shelf.held c.args.shelf.now) _ c.in-Ok.checked c.in-Err-load_text.end c.in-Ok.ensures.text (text_held _ _ _ _ _ c.in-Ok.ensures.same c.in-Err-load_text.ensures.text)

pub returns-in-Err-load_table-clause-texts : goal.returns-in-Err-load_table-clause-texts
returns-in-Err-load_table-clause-texts g c =
    texts_table (g.F.Shelf.held c.args.shelf.now) _ c.in-Ok.checked c.in-Ok-load_text.script c.in-Err-load_table.end c.in-Ok.ensures.text (text_held _ _ _ _ _ c.in-Ok.ensures.same c.in-Ok-load_text.ensures.text)
    (table_held _ _ _ _ _ (c.in-Ok-load_text.ensures.same ∙ c.in-Ok.ensures.same) c.in-Err-load_table.ensures.text)

pub returns-in-Ok-load_table-clause-texts : goal.returns-in-Ok-load_table-clause-texts
returns-in-Ok-load_table-clause-texts g c =
    texts_whole (g.F.Shelf.held c.args.shelf.now) _ c.in-Ok.checked c.in-Ok-load_text.script (c.in-Ok-load_table.header, c.in-Ok-load_table.rows) c.in-Ok.ensures.text (text_held _ _ _ _ _ c.in-Ok.ensures.same c.in-Ok-load_text.ensures.text)
    (table_held _ _ _ _ _ (c.in-Ok-load_text.ensures.same ∙ c.in-Ok.ensures.same) c.in-Ok-load_table.ensures.text)
