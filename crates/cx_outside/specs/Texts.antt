-- Texts, by the bytes that cells hold.
use Rattle.std.specs.Prelude.{ℕ, ◌==◌, if◌then◌else◌, Result, Ok, Err}
use Rattle.cr_base.specs.declared.rule.URule.TheVariants.{U7, U9}
use Rattle.cx_mean.specs.Calls.{argument_of}
use Rattle.cx_mean.specs.Operands.{CWhy, breaks, rule_of, COperand, scalar_value}
use Rattle.cx_mean.specs.Settings.{CSetting, scalar_in_type}
use Rattle.ext_calls.specs.declared.call.Arg.{Arg}
use Rattle.mem_bytes.specs.Access.{and_then}
use Rattle.mem_bytes.specs.Memory.{Blocks}
use Rattle.mem_bytes.specs.declared.cell.Cell.{Cell}
use Rattle.mem_bytes.specs.declared.cell.Cell.TheVariants.{Bits, PtrByte}
use Rattle.mem_bytes.specs.declared.fault.Fault.{Fault}

-- the byte of a cell, of which all bits have to be set
abbrev pub byte_in : Result Cell Fault → Result ℕ CWhy
byte_in (Ok (Bits value set)) = if set == 255 then Ok value else Err (breaks U7)
byte_in (Ok (PtrByte of index)) = Err (breaks U9)
byte_in (Err fault) = Err (breaks (rule_of fault))

-- an argument as the outside sees it
abbrev pub argument_in : CSetting → Blocks → COperand → Result Arg CWhy
argument_in setting blocks one = and_then (scalar_value one.value) (argument_of blocks (scalar_in_type setting one.type))
