use Rattle.std.proofs.Common.{◌≡◌, rules}
use Rattle.rs_text.specs.Text.{module_path}
use Rattle.rs_print.proofs.Paths.{path_is_text}
use Rattle.rs_print.proofs.files.module_path.Goals as goal

pub text_of_bytes-requires : goal.text_of_bytes-requires
text_of_bytes-requires c =
    let path : c.extend_from_slice-2.new.self.items ≡ module_path c.args.name.now = search rules in
    path_is_text c.args.name.now c.extend_from_slice-2.new.self.items c.requires path
