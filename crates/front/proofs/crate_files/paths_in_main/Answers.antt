use Rattle.std.proofs.Common.{ℕ, List, sym, subst}
use Rattle.rs_parse.specs.Crates.{NamesModules}
use Rattle.front.proofs.CrateFileLaws.{main_stops, says_not_rust}
use Rattle.front.proofs.crate_files.paths_in_main.Goals as goal

pub returns-in-Err-NotRust : goal.returns-in-Err-NotRust
returns-in-Err-NotRust c =
    let never = says_not_rust (List (List ℕ)) c.in-Err-NotRust.field-0 c.in-Err-NotRust.field-0-0 c.in-Err-NotRust.line
    (λ file. (names : List (List ℕ)) → NamesModules c.as_slice.result.now names → ⊥) c.in-Err-NotRust.field-0-is c.in-Err-NotRust.ensures.refused in
    main_stops c.args.directory.now c.args.main.now.bytes c.not_main.result
    (λ names named. never names (subst (λ (text : List ℕ). NamesModules text names) (sym c.as_slice.ensures) named)) c.not_main.ensures
