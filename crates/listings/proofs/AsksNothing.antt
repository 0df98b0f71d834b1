-- No public call asks anything of its caller: what its contract requires holds of any arguments, so that a clause that is added breaks the law. Assumes nothing.
use contract.Lifetimes.{Lfts}
use borrow.Fn.World.{ArgsD}
use Rattle.listings.specs.contracts.cursors.predictive_search
use Rattle.listings.proofs.cursors.predictive_search.Reads as predictive-search-reads
use Rattle.listings.specs.contracts.cursors.postfix_search
use Rattle.listings.proofs.cursors.postfix_search.Reads as postfix-search-reads
use Rattle.listings.specs.contracts.cursors.step
use Rattle.listings.proofs.cursors.step.Reads as step-reads
use Rattle.listings.specs.contracts.given_key.cursor_key
use Rattle.listings.proofs.given_key.cursor_key.Reads as cursor-key-reads
use Rattle.listings.specs.contracts.answers.Cursor.top
use Rattle.listings.proofs.answers.Cursor.top.Reads as top-reads
use Rattle.listings.specs.contracts.answers.Cursor.finished
use Rattle.listings.proofs.answers.Cursor.finished.Reads as finished-reads

pub predictive-search-asks-nothing : (κs : Lfts 4) (a : ArgsD predictive_search.signature κs) → predictive-search-reads.Pre κs a
predictive-search-asks-nothing κs a = tt

pub postfix-search-asks-nothing : (κs : Lfts 4) (a : ArgsD postfix_search.signature κs) → postfix-search-reads.Pre κs a
postfix-search-asks-nothing κs a = tt

pub step-asks-nothing : (κs : Lfts 3) (a : ArgsD step.signature κs) → step-reads.Pre κs a
step-asks-nothing κs a = tt

pub cursor-key-asks-nothing : (κs : Lfts 4) (a : ArgsD cursor_key.signature κs) → cursor-key-reads.Pre κs a
cursor-key-asks-nothing κs a = tt

pub top-asks-nothing : (κs : Lfts 0) (a : ArgsD top.signature κs) → top-reads.Pre κs a
top-asks-nothing κs a = tt

pub finished-asks-nothing : (κs : Lfts 0) (a : ArgsD finished.signature κs) → finished-reads.Pre κs a
finished-asks-nothing κs a = tt
