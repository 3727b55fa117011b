use Rattle.std.proofs.Common.{◌≡◌, ◌++◌, map, drop}
use Rattle.rs_items_modules.specs.Modules.{word_byte_of}
use Rattle.rs_items_modules.proofs.stems.word_bytes_of.Given as goal

-- those that are made, and those that are left
abbrev pub invariant-loop-byte : goal.invariant-loop-byte
invariant-loop-byte l = l.bytes.items ++ map (λ byte. word_byte_of byte) (drop l.byte-index l.stem) ≡ map (λ byte. word_byte_of byte) l.stem
