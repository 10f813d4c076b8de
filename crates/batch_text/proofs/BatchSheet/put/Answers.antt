-- `BatchSheet::put` meets its contract: there is no setting, or the parts of the words are the settings and the jobs.
use Prim.Native.Nat.{◌+◌, ◌-◌}
use mathlib.Core.Path.{◌≡◌, sym}
use native.Mathlib.Omega.{arith}
use lib.ListN.{take, drop}
use lib.Seq.{length-take-le}
use Rattle.text.proofs.Adding.{adds_same}
use Rattle.batch_text.specs.Sheet.{most_settings}
use Rattle.batch_text.proofs.Tables.{sheet_none, sheet_some}
use borrow.Author.Rules.{rules}
use Rattle.batch_text.proofs.BatchSheet.put.Goals as goal

pub returns-then-self-eq0 : goal.returns-then-self-eq0
returns-then-self-eq0 c =
    adds_same (sheet_none (take c.args.self.settings c.args.words.now) (take c.args.self.jobs (drop most_settings c.args.words.now)) (length-take-le c.args.self.settings c.args.words.now (search rules)) c.if-self-eq0.true)
    c.put_str.ensures

pub slice_bounds-put_table-end : goal.slice_bounds-put_table-end
slice_bounds-put_table-end c =
    sym (length-take-le c.args.self.settings c.args.words.now (search rules))

pub put_table-requires : goal.put_table-requires
put_table-requires c =
    (search rules, omega (arith, length-take-le c.args.self.settings c.args.words.now (search rules)))

pub returns : goal.returns
returns c =
    let e : most_settings + c.args.self.jobs - most_settings ≡ c.args.self.jobs = omega arith in
    adds_same (sheet_some (take c.args.self.settings c.args.words.now) (take c.args.self.jobs (drop most_settings c.args.words.now)) (length-take-le c.args.self.settings c.args.words.now (search rules)) c.if-self-eq0.false)
    (rw e at c.put_table.ensures)
