use Rattle.std.proofs.Common.{◌≡◌, ◌<◌, ◌∙◌, ap, arith, length}
use Rattle.std.proofs.lemmas.Bool.Decides.{nat_tests}
use Rattle.rs_items_modules.specs.Modules.{module_name}
use Rattle.rs_items_modules.proofs.Several.{next}
use Rattle.rs_items_modules.proofs.modules.module_names.Goals as goal

pub loop-file-preserved : goal.loop-file-preserved
loop-file-preserved c =
    let test = c.loop-file-test.true in
    let low : c.loop-file.file-index < length c.args.files.now = grind (arith, nat_tests, test) in
    let named : c.in_ok-name.name ≡ module_name c.loop-file.names c.file-item.result = c.in_ok-name.ensures ∙ ap (λ taken. module_name taken c.file-item.result) c.as_slice.ensures in
    next c.loop-file.names c.push.new.self c.args.files.now c.loop-file.file-index c.file-item.result c.in_ok-name.name low c.file-item.is named c.in_ok-push.ensures.ok
    ∙ c.loop-file.invariant
