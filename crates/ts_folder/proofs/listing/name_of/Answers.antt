-- What is no text is no name's file.
use Rattle.ts_base.specs.Spelling.{prefix_text}
use Rattle.ts_folder.proofs.Ascii.{rest_is_text}
use Rattle.ts_folder.proofs.listing.name_of.Goals as goal

pub returns-in_default-clause-every : goal.returns-in_default-clause-every
returns-in_default-clause-every c n is = absurd (c.in_default.ensures.cases.0 (rest_is_text n (prefix_text c.args.prefix) c.args.file.now is.fits is.spells))
