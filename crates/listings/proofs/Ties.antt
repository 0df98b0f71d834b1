-- What each public call's contract says, in the definitions of specs/. Each tie is over the contract's own claim, so a contract that cites another definition breaks it.
-- Assumes nothing.
use mathlib.Core.Path.{◌≡◌}
use Rattle.keymap.specs.Contract.{Tells}
use Rattle.image.specs.Meaning.{image_in}
use Rattle.climbs.specs.Spelling.{said_spelled}
use Rattle.listings.specs.declared.answers.Kind.TheVariants.{Predictive, Postfix}
use Rattle.listings.specs.declared.answers.Cursor.TheVariants.{Open, Finished}
use Rattle.listings.specs.Answers.{said_started, said_stepped}
use Rattle.listings.specs.Cursors.{start_says, step_says}
use Rattle.listings.specs.GivenKey.{key_says, key_out}
use Rattle.listings.proofs.cursors.predictive_search.Kinds as predictive-search-kinds
use Rattle.listings.proofs.cursors.predictive_search.Reads as predictive-search-reads
use Rattle.listings.proofs.cursors.postfix_search.Kinds as postfix-search-kinds
use Rattle.listings.proofs.cursors.postfix_search.Reads as postfix-search-reads
use Rattle.listings.proofs.cursors.step.Kinds as step-kinds
use Rattle.listings.proofs.cursors.step.Reads as step-reads
use Rattle.listings.proofs.given_key.cursor_key.Kinds as cursor-key-kinds
use Rattle.listings.proofs.given_key.cursor_key.Reads as cursor-key-reads
use Rattle.listings.proofs.answers.Cursor.top.Kinds as top-kinds
use Rattle.listings.proofs.answers.Cursor.top.Reads as top-reads
use Rattle.listings.proofs.answers.Cursor.finished.Kinds as finished-kinds
use Rattle.listings.proofs.answers.Cursor.finished.Reads as finished-reads

pub predictive-search-says : Tells 4 predictive-search-kinds.ps predictive-search-kinds.r predictive-search-reads.Post (λ κs a r s. said_started r ≡ start_says Predictive (image_in a.0 a.1.0 a.1.1.0) a.1.1.1.0.now)
predictive-search-says κs a r s p = p

pub postfix-search-says : Tells 4 postfix-search-kinds.ps postfix-search-kinds.r postfix-search-reads.Post (λ κs a r s. said_started r ≡ start_says Postfix (image_in a.0 a.1.0 a.1.1.0) a.1.1.1.0.now)
postfix-search-says κs a r s p = p

pub step-says : Tells 3 step-kinds.ps step-kinds.r step-reads.Post (λ κs a r s. said_stepped r ≡ step_says (image_in a.0 a.1.0 a.1.1.0) a.1.1.1.0)
step-says κs a r s p = p

pub cursor-key-says : Tells 4 cursor-key-kinds.ps cursor-key-kinds.r cursor-key-reads.Post (λ κs a r s. (said_spelled r ≡ key_says (image_in a.0 a.1.0 a.1.1.0) a.1.1.1.0 a.1.1.1.1.0.now) × (s.1.1.1.1.0.now ≡ key_out (image_in a.0 a.1.0 a.1.1.0) a.1.1.1.0 a.1.1.1.1.0.now))
cursor-key-says κs a r s p = p

pub top-says : Tells 0 top-kinds.ps top-kinds.r top-reads.Post (λ κs a r s. r ≡ Open a.0 a.1.0 0)
top-says κs a r s p = p

pub finished-says : Tells 0 finished-kinds.ps finished-kinds.r finished-reads.Post (λ κs a r s. r ≡ Finished a.0)
finished-says κs a r s p = p
