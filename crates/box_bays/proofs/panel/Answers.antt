use Rattle.box_bays.proofs.Recording.{not-paneled, paneled}
use Rattle.box_bays.proofs.panel.Goals as goal

pub returns-then-trace-ne-RECORD_LENGTH : goal.returns-then-trace-ne-RECORD_LENGTH
returns-then-trace-ne-RECORD_LENGTH c = not-paneled _ _ _ c.then-trace-ne-RECORD_LENGTH.either

pub returns : goal.returns
returns c = paneled _ _ _ c.if-trace-ne-RECORD_LENGTH.false c.if-view-ne-PANEL_LENGTH.false c.service_only.ensures c.write_panel.ensures
