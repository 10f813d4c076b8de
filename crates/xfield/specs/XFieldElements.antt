-- An `XFieldElement` of the code as an extension element: its three words.
use Rattle.xfield.specs.declared.XFieldElement.{XFieldElement}
use Rattle.xfield.specs.Extension.{Ext, ext}

abbrev pub ext_of : XFieldElement → Ext
ext_of x = ext x.0.0 x.1.0 x.2.0
