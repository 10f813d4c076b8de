-- `names::put_name` meets its contract: the name at the index, where the group has one; no name is longer than the room that is asked.
use Prim.Native.Nat.{ℕ, zero, suc, ◌≤◌, ◌<◌}
use mathlib.Core.Path.{◌≡◌, refl, sym, ap, ◌∙◌}
use mathlib.Core.List.{List, [], ◌∷◌, map}
use native.Mathlib.Omega.{arith}
use denote.Bor.{Bor}
use lib.ListN.{length, get_or}
use Rattle.std.proofs.lemmas.List.{length-map}
use Rattle.text.proofs.Lengths.{field_length}
use Rattle.names.specs.Names.{names_of, name_at, name_of}
use Rattle.names.proofs.Named.{past_end, name_bound}
use Rattle.names.proofs.put_name.Goals as goal

abbrev texts : List (Bor (List ℕ)) → List (List ℕ)
texts = map (λ x. x.now)

at_index : (xs : List (Bor (List ℕ))) (index : ℕ) (d : Bor (List ℕ)) → index < length xs → (get_or xs index d).now ≡ name_at (texts xs) index
at_index [] index d h = absurd (omega arith)
at_index (x ∷ xs) zero d h = refl
at_index (x ∷ xs) (suc index) d h = at_index xs index d (omega arith)

-- the name that `get` lends
module _ (group index : ℕ) (xs : List (Bor (List ℕ))) (are : texts xs ≡ names_of group) where
  found : (name : Bor (List ℕ)) → index < length xs → name ≡ get_or xs index name → name.now ≡ name_of group index
  unfolding name_of
  found name h e = ap (λ (x : Bor (List ℕ)). x.now) e ∙ at_index xs index name h ∙ rw are

  missing : length xs ≤ index → [] ≡ name_of group index
  unfolding name_of
  missing h = rw (← are) (sym (past_end (texts xs) index (rw length-map h)))

pub put_field-requires : goal.put_field-requires
put_field-requires c =
    let l = rw c.in-Some.is at c.get.ensures.lookup in
    let e = c.as_bytes.ensures.value ∙ found _ _ _ c.names_of.ensures _ l.3.0 l.1 in
    omega (arith, c.requires, ap length e, field_length c.as_bytes.result.now, name_bound c.args.group c.args.index)

pub put_field-requires-in-None : goal.put_field-requires-in-None
put_field-requires-in-None c = omega (arith, c.requires, field_length [])

pub returns-in-Some : goal.returns-in-Some
returns-in-Some c =
    let l = rw c.in-Some.is at c.get.ensures.lookup in
    rw (c.as_bytes.ensures.value ∙ found _ _ _ c.names_of.ensures _ l.3.0 l.1) at c.put_field.ensures

pub returns-in-None : goal.returns-in-None
returns-in-None c =
    let l = rw c.in-None.is at c.get.ensures.lookup in
    rw (missing _ _ _ c.names_of.ensures l.3) at c.put_field-in-None.ensures
