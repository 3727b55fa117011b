-- What is known of a declaration whose initialiser ends.
use Rattle.cx_contents.specs.Contents.{CContent}
use Rattle.cx_contents.specs.declared.content.Content.{Content}

abbrev pub view_content : Content → CContent
view_content one = record {
  name = one.name.now;
  linkage = one.linkage;
  object = one.object;
  is_static = one.is_static;
  mention = one.mention;
}
