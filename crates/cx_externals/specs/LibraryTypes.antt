-- Which function of the library, and which type of its parameters, each declared value is. Named by the contracts of parts alone.
use Rattle.std.specs.Prelude.{ℕ, false, true, List, [], ◌∷◌, map, codes}
use Rattle.cx_core.specs.declared.ty.Basic.TheVariants as basics
use Rattle.cx_core.specs.Externals.{CKnown}
use Rattle.cx_core.specs.Trees.{CTy, ty, void, basic, pointer}
use Rattle.cx_externals.specs.declared.library.Library.{Library}
use Rattle.cx_externals.specs.declared.library.Library.TheVariants.{Malloc, Calloc, Free, Memcpy, Memmove, Memset, Exit, Abort}
use Rattle.cx_externals.specs.declared.library.LibraryTy.{LibraryTy}
use Rattle.cx_externals.specs.declared.library.LibraryTy.TheVariants.{Nothing, Int, Size, Bytes, ConstBytes}

-- `void`, `int`, `unsigned long`, `void *` and `const void *`
abbrev pub type_of : LibraryTy → CTy
type_of Nothing = ty void false
type_of Int = ty (basic basics.Int) false
type_of Size = ty (basic basics.UnsignedLong) false
type_of Bytes = ty (pointer (ty void false)) false
type_of ConstBytes = ty (pointer (ty void true)) false

abbrev pub types_of_library : List LibraryTy → List CTy
types_of_library types = map type_of types

abbrev known : List ℕ → CTy → List CTy → CKnown
known name result params = record { name = name; signature = record { result = result; params = params } }

abbrev pub known_view : Library → CKnown
known_view Malloc = known (codes "malloc") (type_of Bytes) (type_of Size ∷ [])
known_view Calloc = known (codes "calloc") (type_of Bytes) (type_of Size ∷ type_of Size ∷ [])
known_view Free = known (codes "free") (type_of Nothing) (type_of Bytes ∷ [])
known_view Memcpy = known (codes "memcpy") (type_of Bytes) (type_of Bytes ∷ type_of ConstBytes ∷ type_of Size ∷ [])
known_view Memmove = known (codes "memmove") (type_of Bytes) (type_of Bytes ∷ type_of ConstBytes ∷ type_of Size ∷ [])
known_view Memset = known (codes "memset") (type_of Bytes) (type_of Bytes ∷ type_of Int ∷ type_of Size ∷ [])
known_view Exit = known (codes "exit") (type_of Nothing) (type_of Int ∷ [])
known_view Abort = known (codes "abort") (type_of Nothing) []
