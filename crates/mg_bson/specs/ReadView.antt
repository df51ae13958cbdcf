-- What a borrowed element is seen as, for private clauses.
use Rattle.std.specs.Prelude.{ℕ, List, Option, Some}
use Rattle.mg_bson.specs.declared.kind.Kind.{Kind}
use Rattle.mg_bson.specs.declared.read.Element.{Element}
use Rattle.mg_bson.specs.Reading as reading
use Rattle.mg_bson.specs.Reading.{◌>>=◌, cut, utf8_of, extent, element_of}
use Rattle.mg_bson.specs.Raw.{Spelled}

-- its parts
abbrev pub element_view : Element → reading.Element
element_view e = record { kind = e.kind; name = e.name.now; value = e.value.now; rest = e.rest.now }

-- the text that a 0 ends, and the bytes behind it
unfoldable pub ended_text : List ℕ → Option (List ℕ × List ℕ)
ended_text bs = cut bs >>= λ c. utf8_of c.0 >>= λ text. Some (text, c.1)

-- the element of the kind and the name whose value the bytes begin with
abbrev pub element_with : Kind → List ℕ → List ℕ → Option reading.Element
element_with k name bs = extent k bs >>= λ n. element_of k name bs n

-- its value, which is not opened yet
abbrev pub spelling : Element → Spelled
spelling e = record { kind = e.kind; bytes = e.value.now }
