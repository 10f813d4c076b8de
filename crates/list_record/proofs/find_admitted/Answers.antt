-- `list_record::find_admitted` meets its contract: each way out is one of the cases of a place (proofs/RecordingCases.antt). Count and holds are
-- tested before one is added. Assumes nothing.
use Rattle.std.proofs.Common.{◌≡◌, ℕ, ◌*◌, ◌/◌, ◌≤◌, ◌<◌, List, length, take, sym, ap, ◌∙◌, arith}
use Rattle.isa.specs.declared.U32TableEntry.{U32TableEntry}
use Rattle.isa.specs.Entries.{entry_width}
use Rattle.list.specs.declared.Sizes.{Sizes}
use Rattle.list.specs.Lists.{U32List, u32_list, used, multiplicity_at}
use Rattle.list.specs.Holds.{hold_at}
use Rattle.list.specs.Lent.{held_in}
use Rattle.list.specs.declared.LentList.{LentList}
use Rattle.list.specs.Keys.{find_from, find_key}
use Rattle.list.proofs.Finding.{find_cong}
use Rattle.list.proofs.Places.{many_used, same_entry}
use Rattle.list_record.proofs.RecordingCases.{place_known, place_full, place_new, no_place}
use Rattle.list_record.proofs.find_admitted.Goals as goal

-- what `find` answers, which is lent the keys of the used places
module _ (l : U32List) (b : entry_width * used l ≤ length l.keys) {ks : List ℕ} (part : ks ≡ take (entry_width * used l) l.keys) where
  first_key : (e : U32TableEntry) (s : Sizes) (ms : List ℕ) {at : ℕ} → at ≡ find_from (u32_list s ks ms) e 0 (length ks / entry_width) → at ≡ find_key l e
  unfolding find_key
  first_key e s ms f =
      f ∙ ap (find_from (u32_list s ks ms) e 0) (many_used l b part) ∙ find_cong _ l e 0 (used l) (λ j a h. same_entry l b part s ms j (omega arith))

  few : {at : ℕ} → at < length ks / entry_width → at < used l
  few h = omega (arith, many_used l b part)

abbrev list_of : LentList → U32List
list_of l = (held_in l).list

pub returns-then-one_more_is_full : goal.returns-then-one_more_is_full
unfolding multiplicity_at hold_at
returns-then-one_more_is_full c =
    let l = list_of c.args.held.now in
    sym
    (place_full _ _ _ (first_key l c.requires.1 c.used_keys.ensures _ l.sizes l.multiplicities (c.in-Some.ensures.first _ _)) (few l c.requires.1 c.used_keys.ensures c.in-Some.ensures.within)
    (sym c.one_more_is_full.ensures ∙ c.if-one_more_is_full.true))

pub returns-else-one_more_is_full : goal.returns-else-one_more_is_full
unfolding multiplicity_at hold_at
returns-else-one_more_is_full c =
    let l = list_of c.args.held.now in
    sym
    (place_known _ _ _ (first_key l c.requires.1 c.used_keys.ensures _ l.sizes l.multiplicities (c.in-Some.ensures.first _ _)) (few l c.requires.1 c.used_keys.ensures c.in-Some.ensures.within)
    (sym c.one_more_is_full.ensures ∙ c.if-one_more_is_full.false))

pub returns-then-list : goal.returns-then-list
returns-then-list c =
    let l = list_of c.args.held.now in
    let all = many_used l c.requires.1 c.used_keys.ensures in
    sym (place_new _ _ _ (first_key l c.requires.1 c.used_keys.ensures _ l.sizes l.multiplicities (c.in-None.ensures.first _ _)) (omega arith) c.if-list.true)

pub returns-else-list : goal.returns-else-list
returns-else-list c =
    let l = list_of c.args.held.now in
    let all = many_used l c.requires.1 c.used_keys.ensures in
    sym (no_place _ _ _ (first_key l c.requires.1 c.used_keys.ensures _ l.sizes l.multiplicities (c.in-None.ensures.first _ _)) (omega arith) c.if-list.false)
