-- The paths of files are ASCII.
use Rattle.std.proofs.Common.{◌≡◌, ℕ, ◌<◌, Bool, true, false, not, ◌&&◌, List, [], ◌∷◌, ◌++◌, codes, arith, lit<}
use Rattle.std.specs.Prelude.{IsUtf8}
use Rattle.std.specs.Str.{IsAscii}
use Rattle.std.specs.List.{list_all}
use Rattle.std.proofs.lemmas.Bool.Decides.{nat_tests}
use Rattle.std.proofs.lemmas.Str.{IsUtf8-from_ascii, IsAscii-append}
use Rattle.std.proofs.lemmas.Str.Ascii.{IsAscii-nil, IsAscii-cons}
use Rattle.rs_text.specs.Names.{is_digit, is_word_byte, is_word}
use Rattle.rs_text.specs.Text.{module_path}

pub first_holds : (a b : Bool) → (a && b) ≡ true → a ≡ true
first_holds true b h = cc
first_holds false b h = h

pub second_holds : (a b : Bool) → (a && b) ≡ true → b ≡ true
second_holds true b h = h
second_holds false b h = cc

word_byte_is_ascii : (byte : ℕ) → is_word_byte byte ≡ true → byte < 128
word_byte_is_ascii byte test = grind (arith, nat_tests, test)

word_bytes_are_ascii : (bytes : List ℕ) → list_all is_word_byte bytes ≡ true → IsAscii bytes
word_bytes_are_ascii [] h = IsAscii-nil
word_bytes_are_ascii (byte ∷ bytes) h =
    IsAscii-cons byte bytes (word_byte_is_ascii byte (first_holds (is_word_byte byte) (list_all is_word_byte bytes) h))
    (word_bytes_are_ascii bytes (second_holds (is_word_byte byte) (list_all is_word_byte bytes) h))

word_is_ascii : (name : List ℕ) → is_word name ≡ true → IsAscii name
word_is_ascii [] h = IsAscii-nil
word_is_ascii (first ∷ rest) h =
    word_bytes_are_ascii (first ∷ rest) (second_holds (not (is_digit first)) (list_all is_word_byte (first ∷ rest)) h)

folder_is_ascii : IsAscii (codes "src/")
folder_is_ascii =
    IsAscii-cons 115 (codes "rc/") (lit< tt) (IsAscii-cons 114 (codes "c/") (lit< tt)
    (IsAscii-cons 99 (codes "/") (lit< tt) (IsAscii-cons 47 [] (lit< tt) IsAscii-nil)))

ending_is_ascii : IsAscii (codes ".rs")
ending_is_ascii =
    IsAscii-cons 46 (codes "rs") (lit< tt) (IsAscii-cons 114 (codes "s") (lit< tt) (IsAscii-cons 115 [] (lit< tt) IsAscii-nil))

-- the path of a module's file is a text
pub path_is_text : (name bytes : List ℕ) → is_word name ≡ true → bytes ≡ module_path name → IsUtf8 bytes
path_is_text name bytes word is =
    rw is (IsUtf8-from_ascii (module_path name) (IsAscii-append (codes "src/") (name ++ codes ".rs") folder_is_ascii
    (IsAscii-append name (codes ".rs") (word_is_ascii name word) ending_is_ascii)))
