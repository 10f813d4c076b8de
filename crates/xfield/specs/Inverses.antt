-- Inverse-or-zero as a function (document 01, "Elements": "inverse, (0, 0, 0) where there is none"). proofs/Inverses.antt shows that it is
-- the one element of which `InverseOrZeroX` holds (`inv_x_is`, `inv_x_only`), which is all that is used.
use Rattle.std.specs.Prelude.{ℕ}
use Rattle.field.specs.Elements.{add_f, sub_f, mul_f, inv_f}
use Rattle.xfield.specs.Extension.{Ext, ext, mul_x, scale_x}

-- multiplication by x is linear on the words: the cofactors of its matrix, first row
unfoldable pub adjugate_x : Ext → Ext
adjugate_x x =
    ext
    (sub_f (mul_f (add_f x.a x.c) (add_f x.a x.c)) (mul_f x.b (sub_f x.b x.c)))
    (sub_f (mul_f x.c (sub_f x.b x.c)) (mul_f x.b (add_f x.a x.c)))
    (sub_f (mul_f x.b x.b) (mul_f x.c (add_f x.a x.c)))

-- its determinant: the first word of x times its adjugate; the others are 0
unfoldable pub norm_x : Ext → ℕ
norm_x x = (mul_x x (adjugate_x x)).a

-- the adjugate over the norm: zero where the norm has no inverse, which is where x has none
unfoldable pub inv_x : Ext → Ext
inv_x x = scale_x (inv_f (norm_x x)) (adjugate_x x)
