-- Each number has its line of the page, and any other is none of theirs.
use borrow.Author.Rules.{rules}
use mathlib.Core.List.{[]}
use Rattle.replies.specs.Texts.{page, ascii, words_in, text_in}
use Rattle.replies.proofs.Worded.{past}
use Rattle.replies.proofs.words.words.Goals as goal

pub returns-in-1 : goal.returns-in-1
unfolding text_in ascii words_in
returns-in-1 c = rw c.in-1.is

pub returns-in-2 : goal.returns-in-2
unfolding text_in ascii words_in
returns-in-2 c = rw c.in-2.is

pub returns-in-3 : goal.returns-in-3
unfolding text_in ascii words_in
returns-in-3 c = rw c.in-3.is

pub returns-in-4 : goal.returns-in-4
unfolding text_in ascii words_in
returns-in-4 c = rw c.in-4.is

pub returns-in-5 : goal.returns-in-5
unfolding text_in ascii words_in
returns-in-5 c = rw c.in-5.is

pub returns-in-6 : goal.returns-in-6
unfolding text_in ascii words_in
returns-in-6 c = rw c.in-6.is

pub returns-in-7 : goal.returns-in-7
unfolding text_in ascii words_in
returns-in-7 c = rw c.in-7.is

pub returns-in-8 : goal.returns-in-8
unfolding text_in ascii words_in
returns-in-8 c = rw c.in-8.is

pub returns-in-9 : goal.returns-in-9
unfolding text_in ascii words_in
returns-in-9 c = rw c.in-9.is

pub returns-in-10 : goal.returns-in-10
unfolding text_in ascii words_in
returns-in-10 c = rw c.in-10.is

pub returns-in-11 : goal.returns-in-11
unfolding text_in ascii words_in
returns-in-11 c = rw c.in-11.is

pub returns-in-12 : goal.returns-in-12
unfolding text_in ascii words_in
returns-in-12 c = rw c.in-12.is

pub returns-in-13 : goal.returns-in-13
unfolding text_in ascii words_in
returns-in-13 c = rw c.in-13.is

pub returns-in-14 : goal.returns-in-14
unfolding text_in ascii words_in
returns-in-14 c = rw c.in-14.is

pub returns-in-20 : goal.returns-in-20
unfolding text_in ascii words_in
returns-in-20 c = rw c.in-20.is

pub returns-in-21 : goal.returns-in-21
unfolding text_in ascii words_in
returns-in-21 c = rw c.in-21.is

pub returns-in-22 : goal.returns-in-22
unfolding text_in ascii words_in
returns-in-22 c = rw c.in-22.is

pub returns-in-23 : goal.returns-in-23
unfolding text_in ascii words_in
returns-in-23 c = rw c.in-23.is

pub returns-in-24 : goal.returns-in-24
unfolding text_in ascii words_in
returns-in-24 c = rw c.in-24.is

pub returns-in-25 : goal.returns-in-25
unfolding text_in ascii words_in
returns-in-25 c = rw c.in-25.is

pub returns-in-26 : goal.returns-in-26
unfolding text_in ascii words_in
returns-in-26 c = rw c.in-26.is

pub returns-in-27 : goal.returns-in-27
unfolding text_in ascii words_in
returns-in-27 c = rw c.in-27.is

pub returns-in-28 : goal.returns-in-28
unfolding text_in ascii words_in
returns-in-28 c = rw c.in-28.is

pub returns-in-29 : goal.returns-in-29
unfolding text_in ascii words_in
returns-in-29 c = rw c.in-29.is

pub returns-in_default : goal.returns-in_default
unfolding text_in ascii words_in
returns-in_default c = past page [] c.args.number (search rules)
