mod EarlierWords
