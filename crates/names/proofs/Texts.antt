-- Each text gives what the table says.
use mathlib.Core.Path.{◌≡◌, refl}
use mathlib.Core.Bool.{true}
use Rattle.lists.specs.Lists.{every, any}
use Rattle.names.specs.Check.{remains, refused, name_length}
use Rattle.names.specs.Texts.{holds, texts}

pub all_texts : every holds texts ≡ true
unfolding every any remains refused name_length holds
all_texts = refl
