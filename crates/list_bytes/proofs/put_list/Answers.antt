-- `list_bytes::put_list` meets its contract: the four parts of the stored form, stored one after the other. Assumes nothing.
use mathlib.Core.Path.{sym, ap, ◌∙◌}
use lib.Seq.{sets}
use Rattle.list.specs.Lists.{used, entry_at, multiplicity_at}
use Rattle.list.specs.Lent.{counts_in}
use Rattle.list_bytes.proofs.Format.{bytes_formed, put_form}
use Rattle.list_bytes.proofs.put_list.Goals as goal

pub returns : goal.returns
returns c =
    let l = counts_in c.args.places.now.list in
    put_form (entry_at l) (multiplicity_at l) (used l) c.args.height
    c.args.out.now c.put_le.new.bytes c.put_le-2.new.bytes c.put_entries.new.out c.put_multiplicities.new.out
    c.put_le.ensures
    c.put_le-2.ensures
    c.put_entries.ensures
    c.put_multiplicities.ensures
    c.requires
    ∙ ap (sets c.args.out.now 0) (sym (bytes_formed c.args.height l))
