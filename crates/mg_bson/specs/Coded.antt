-- A code of values, documents and arrays, by which a proof tells two of them apart.
use Rattle.std.specs.Prelude.{◌≡◌, ℕ, List, refl}
use Rattle.std.proofs.Common.{ap, arith}
use Rattle.std.specs.Coded.{Coded, coded_ℕ, coded_ℤ, coded_bool, coded_list}
use base.Stored.{Gv, gnil, gnum, gcons, num}
use Rattle.mg_bson.specs.Tree.{Tree, double, string, document, array, binary, undefined, object_id, boolean, date_time, null, regex, db_pointer, script, symbol, scoped, int32, timestamp, int64, decimal128, min_key, max_key, Fields, no_fields, field, Items, no_items, item}

-- the code of a list of numbers
abbrev texts : Coded (List ℕ)
texts = coded_list coded_ℕ

-- the codes: a number for the case, and the codes of its parts
abbrev mutual
  pub tree_code : Tree → Gv
  tree_code (double a) = gcons (gnum 0) (texts.code a)
  tree_code (string a) = gcons (gnum 1) (texts.code a)
  tree_code (document a) = gcons (gnum 2) (fields_code a)
  tree_code (array a) = gcons (gnum 3) (items_code a)
  tree_code (binary a b) = gcons (gnum 4) (gcons (gnum a) (texts.code b))
  tree_code undefined = gcons (gnum 5) gnil
  tree_code (object_id a) = gcons (gnum 6) (texts.code a)
  tree_code (boolean a) = gcons (gnum 7) (coded_bool.code a)
  tree_code (date_time a) = gcons (gnum 8) (coded_ℤ.code a)
  tree_code null = gcons (gnum 9) gnil
  tree_code (regex a b) = gcons (gnum 10) (gcons (texts.code a) (texts.code b))
  tree_code (db_pointer a b) = gcons (gnum 11) (gcons (texts.code a) (texts.code b))
  tree_code (script a) = gcons (gnum 12) (texts.code a)
  tree_code (symbol a) = gcons (gnum 13) (texts.code a)
  tree_code (scoped a b) = gcons (gnum 14) (gcons (texts.code a) (fields_code b))
  tree_code (int32 a) = gcons (gnum 15) (coded_ℤ.code a)
  tree_code (timestamp a b) = gcons (gnum 16) (gcons (gnum a) (gnum b))
  tree_code (int64 a) = gcons (gnum 17) (coded_ℤ.code a)
  tree_code (decimal128 a) = gcons (gnum 18) (texts.code a)
  tree_code min_key = gcons (gnum 19) gnil
  tree_code max_key = gcons (gnum 20) gnil

  pub fields_code : Fields → Gv
  fields_code no_fields = gnil
  fields_code (field k t fs) = gcons (texts.code k) (gcons (tree_code t) (fields_code fs))

  pub items_code : Items → Gv
  items_code no_items = gnil
  items_code (item t ts) = gcons (tree_code t) (items_code ts)

-- the first part of a pair
abbrev first : Gv → Gv
first gnil = gnil
first (gnum n) = gnil
first (gcons a b) = a

-- the second part of a pair
abbrev rest : Gv → Gv
rest gnil = gnil
rest (gnum n) = gnil
rest (gcons a b) = b

-- what has the same code is the same
mutual
  pub tree_inj : (x y : Tree) → tree_code x ≡ tree_code y → x ≡ y
  tree_inj (double a) (double ya) e = ap double (texts.inj a ya (ap rest e))
  tree_inj (string a) (string ya) e = ap string (texts.inj a ya (ap rest e))
  tree_inj (document a) (document ya) e = ap document (fields_inj a ya (ap rest e))
  tree_inj (array a) (array ya) e = ap array (items_inj a ya (ap rest e))
  tree_inj (binary a b) (binary ya yb) e = λ i. binary ((ap (λ g. num (first (rest g))) e) i) ((texts.inj b yb (ap (λ g. rest (rest g)) e)) i)
  tree_inj undefined undefined e = refl
  tree_inj (object_id a) (object_id ya) e = ap object_id (texts.inj a ya (ap rest e))
  tree_inj (boolean a) (boolean ya) e = ap boolean (coded_bool.inj a ya (ap rest e))
  tree_inj (date_time a) (date_time ya) e = ap date_time (coded_ℤ.inj a ya (ap rest e))
  tree_inj null null e = refl
  tree_inj (regex a b) (regex ya yb) e = λ i. regex ((texts.inj a ya (ap (λ g. first (rest g)) e)) i) ((texts.inj b yb (ap (λ g. rest (rest g)) e)) i)
  tree_inj (db_pointer a b) (db_pointer ya yb) e = λ i. db_pointer ((texts.inj a ya (ap (λ g. first (rest g)) e)) i) ((texts.inj b yb (ap (λ g. rest (rest g)) e)) i)
  tree_inj (script a) (script ya) e = ap script (texts.inj a ya (ap rest e))
  tree_inj (symbol a) (symbol ya) e = ap symbol (texts.inj a ya (ap rest e))
  tree_inj (scoped a b) (scoped ya yb) e = λ i. scoped ((texts.inj a ya (ap (λ g. first (rest g)) e)) i) ((fields_inj b yb (ap (λ g. rest (rest g)) e)) i)
  tree_inj (int32 a) (int32 ya) e = ap int32 (coded_ℤ.inj a ya (ap rest e))
  tree_inj (timestamp a b) (timestamp ya yb) e = λ i. timestamp ((ap (λ g. num (first (rest g))) e) i) ((ap (λ g. num (rest (rest g))) e) i)
  tree_inj (int64 a) (int64 ya) e = ap int64 (coded_ℤ.inj a ya (ap rest e))
  tree_inj (decimal128 a) (decimal128 ya) e = ap decimal128 (texts.inj a ya (ap rest e))
  tree_inj min_key min_key e = refl
  tree_inj max_key max_key e = refl
  tree_inj _ _ e = absurd (omega (arith, ap (λ (g : Gv). num (first g)) e))

  pub fields_inj : (x y : Fields) → fields_code x ≡ fields_code y → x ≡ y
  fields_inj no_fields no_fields e = refl
  fields_inj (field k t fs) (field l u gs) e = λ i. field (texts.inj k l (ap first e) i) (tree_inj t u (ap (λ g. first (rest g)) e) i) (fields_inj fs gs (ap (λ g. rest (rest g)) e) i)
  fields_inj _ _ e = absurd cc

  pub items_inj : (x y : Items) → items_code x ≡ items_code y → x ≡ y
  items_inj no_items no_items e = refl
  items_inj (item t ts) (item u us) e = λ i. item (tree_inj t u (ap first e) i) (items_inj ts us (ap rest e) i)
  items_inj _ _ e = absurd cc

-- a value with its code
abbrev pub coded_tree : Coded Tree
coded_tree = record { code = tree_code; inj = tree_inj }

-- a document with its code
abbrev pub coded_fields : Coded Fields
coded_fields = record { code = fields_code; inj = fields_inj }

-- an array with its code
abbrev pub coded_items : Coded Items
coded_items = record { code = items_code; inj = items_inj }
