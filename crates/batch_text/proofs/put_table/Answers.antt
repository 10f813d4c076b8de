-- `batch_text::put_table` meets its contract. The invariant: the lines of the settings passed have been put.
use native.Mathlib.Omega.{arith}
use mathlib.Core.List.{flat_map}
use lib.ListN.{length}
use Rattle.std.proofs.lemmas.List.Folds.{length-flat_map-take}
use Rattle.text.proofs.Adding.{adds_none, adds_then, reached, one_more, all_put}
use Rattle.batch_text.specs.Table.{table_text, line_for}
use Rattle.batch_text.proofs.Tables.{head_bound, lines_bound}
use Rattle.batch_text.proofs.put_table.Goals as goal

pub loop-setting-init : goal.loop-setting-init
loop-setting-init c =
    let r = reached c.put_head.ensures in
    adds_none _ (omega (arith, c.requires.0, r.len, r.size, head_bound (length c.args.jobs.now)))

pub put_setting-requires : goal.put_setting-requires
put_setting-requires c =
    let jobs = c.args.jobs.now in
    let settings = c.args.settings.now in
    let r = reached c.put_head.ensures in
    let t = reached c.loop-setting.invariant in
    let passed = length-flat_map-take (line_for jobs) settings c.loop-setting.setting-index 0 c.loop-setting-test.true in
    omega (arith, c.requires.0, c.requires.1, r.len, r.size, t.len, t.size, head_bound (length jobs), lines_bound jobs settings, passed)

pub loop-setting-preserved : goal.loop-setting-preserved
loop-setting-preserved c =
    one_more (line_for c.args.jobs.now) _ _ c.loop-setting.invariant 0 c.loop-setting-test.true c.put_setting.ensures

pub returns : goal.returns
unfolding table_text flat_map
returns c =
    adds_then c.put_head.ensures
    (all_put (line_for c.args.jobs.now) c.args.settings.now _ c.loop-setting.invariant c.loop-setting-test.false)
